-- The two round trips. The second follows from the first: what assembles is a run file.
use Rattle.notation.specs.Files.{RoundTrips, assembled}
use Rattle.notation.proofs.FileIn.{file_in}
use Rattle.notation.proofs.Lengths.{text_brief}
use Rattle.notation.proofs.Sound.{text_fine}

pub round_trips : RoundTrips
round_trips = record {
  file = file_in;
  short = text_brief;
  sound = text_fine;
  text = λ text r. let t = text_fine text r in file_in (assembled text).bytes t.0 t.1;
}
