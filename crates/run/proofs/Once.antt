-- A run that was carried on from a progress: by one step, or as far as there is room.
use mathlib.Core.List.{List}
use mathlib.Core.Logic.{◌⊎◌, inl, inr, ⊎_elim}
use mathlib.Core.Path.{◌≡◌, ap, sym}
use Prim.Native.Nat.{◌+◌, ◌<◌, ◌≤◌, ℕ}
use native.Mathlib.Nat.{eq-or-lt_of_le}
use native.Mathlib.Omega.{arith}
use lib.ListN.{length}
use Rattle.outcome.specs.Figures.{Outcome}
use Rattle.job_sets.specs.declared.job_set.JobSet.{JobSet}
use Rattle.going.proofs.Naming.{nothing_known}
use Rattle.progress.specs.Pieces.{Advanced, Going, Piece, run_of}
use Rattle.progress.specs.Coming.{Begun, CarriedOn, Come, Part, cursor_at, standing}
use Rattle.progress.specs.Turns.{Holds, Stepped, TurnedOnce}
use Rattle.progress.specs.declared.Progress.{Progress}
use Rattle.progress.specs.declared.Turned.{Turned}
use Rattle.progress.specs.declared.Cursor.{Cursor}
use Rattle.runfile.specs.Run.{Run}
use Rattle.naming.specs.Kept.{unknown_yet, Remembered}
use Rattle.text.specs.Text.{longest_text}

module _ {input journal numbers sets records memo : List ℕ} {p : Progress} (g : Going input p journal numbers sets records memo) where
  going_at : (at : ℕ) → Going input (standing p.ledger (cursor_at p.pos p.count at)) journal numbers sets records memo
  going_at at = record { few = g.few; steps = g.steps; inside = g.inside; kept = g.kept }

  -- what is asked of a run that is carried on
  pub to_advance : (c : Cursor) → c ≡ cursor_at p.pos p.count 0 → (named : Remembered) → named ≡ unknown_yet
      → Going input (standing p.ledger c) journal numbers sets records memo × Holds p.ledger journal named × (c.count ≤ 65536)
  to_advance c e named u = rw e (going_at 0, nothing_known p.ledger journal named u, omega (arith, g.few, g.steps, g.inside))

  pub to_turn : (c : Cursor) → c ≡ cursor_at p.pos p.count p.written → (named : Remembered) → Holds p.ledger journal named
      → Going input (standing p.ledger c) journal numbers sets records memo × Holds p.ledger journal named × (c.count ≤ p.count + 1)
  to_turn c e named h = rw e (going_at p.written, h, omega arith)

front : {text before after rest : List ℕ} {end : ℕ} → Part text before 0 after end rest → end ≤ length before → Piece text before after end rest
front a f = record { piece = a.piece; cut = a.cut; put = a.put; fits = f }

module _ {input journal journal' numbers' sets' records' memo' before after : List ℕ} {p : Progress} {q : Turned} where
  advanced_so : CarriedOn input (standing p.ledger (cursor_at p.pos p.count 0)) 65536 journal before q journal' numbers' sets' records' memo' after
      → Advanced input p journal before q.progress journal' numbers' sets' records' memo' after
  advanced_so h =
      let k = h.come in
      let few : q.progress.count < 65536 = omega (arith, k.going.few, k.going.steps, k.going.inside) in
      let filled : (length input ≤ q.progress.pos) ⊎ (length before < q.progress.written + longest_text) =
      ⊎_elim (λ x. inl x) (λ y. ⊎_elim (λ x. inr x) (λ (x : 65536 ≤ q.progress.count). absurd (omega arith)) y) h.stopped in
      record {
        piece = front k.part (k.fits (omega arith));
        going = k.going;
        ends = k.ends;
        filled = filled;
        onward = λ more room. ⊎_elim (λ (x : length input ≤ q.progress.pos). omega arith)
            (λ (x : length before < q.progress.written + longest_text). omega (arith, k.went)) filled;
        short = omega (arith, k.went);
      }

  -- it was carried on as far as there is room
  pub advanced : (c : Cursor) → c ≡ cursor_at p.pos p.count 0
      → CarriedOn input (standing p.ledger c) 65536 journal before q journal' numbers' sets' records' memo' after
      → Advanced input p journal before q.progress journal' numbers' sets' records' memo' after
  advanced c e h = advanced_so (rw e at h)

  -- by one step: there is a last one, and the run before it is the one that it was carried on from
  turned_so : CarriedOn input (standing p.ledger (cursor_at p.pos p.count p.written)) (p.count + 1) journal before q
      journal' numbers' sets' records' memo' after → p.pos < length input → p.written + longest_text ≤ length before
      → TurnedOnce input p journal before q journal' numbers' sets' records' memo' after
  turned_so h more room =
      let k = h.come in
      let moved : p.count < q.progress.count = some_step k h.stopped in
      let l = k.some moved in
      let first = l.first (omega (arith, l.numbered, k.upto, moved)) in
      record { step = first_step l.step first; going = k.going; right = k.right }
    where
      some_step : Come input (standing p.ledger (cursor_at p.pos p.count p.written)) (p.count + 1) journal before q
          journal' numbers' sets' records' memo' after
          → (length input ≤ q.progress.pos) ⊎ ((length before < q.progress.written + longest_text) ⊎ (p.count + 1 ≤ q.progress.count))
          → p.count < q.progress.count
      some_step k s = moves (eq-or-lt_of_le k.since)
        where
          moves : (p.count ≡ q.progress.count) ⊎ (p.count < q.progress.count) → p.count < q.progress.count
          moves (inr l) = l
          moves (inl e) =
              let b = k.none (sym e) in
              let same_pos : p.pos ≡ q.progress.pos = ap (λ (r : Run). r.pos) b.same_run in
              ⊎_elim (λ (x : length input ≤ q.progress.pos). absurd (omega (arith, same_pos)))
              (λ y. ⊎_elim (λ (x : length before < q.progress.written + longest_text). absurd (omega (arith, b.same_place)))
              (λ (x : p.count + 1 ≤ q.progress.count). omega arith) y) s

      first_step : {from : Run} {place : ℕ} {buffer : List ℕ} {r' : Run} {o : Outcome} {m : JobSet} {end : ℕ}
          → Stepped input from place buffer r' o m after end → Begun (run_of p journal) p.written before from place buffer
          → Stepped input (run_of p journal) p.written before r' o m after end
      first_step s b = rw (b.same_run, b.same_place, b.same_buffer) s

  pub turned_once : (c : Cursor) → c ≡ cursor_at p.pos p.count p.written
      → CarriedOn input (standing p.ledger c) (p.count + 1) journal before q journal' numbers' sets' records' memo' after
      → p.pos < length input → p.written + longest_text ≤ length before
      → TurnedOnce input p journal before q journal' numbers' sets' records' memo' after
  turned_once c e h = turned_so (rw e at h)
