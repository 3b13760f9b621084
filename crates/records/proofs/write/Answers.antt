-- The body is stored first, and in version 2 the trimmed frames after it. A buffer too short is not touched.
use mathlib.Core.Path.{◌∙◌, ◌≡◌, sym}
use native.Mathlib.Omega.{arith}
use Prim.Native.Nat.{◌≤◌}
use lib.ListN.{length}
use borrow.Author.Tests.{le-leb, lt-leb}
use Rattle.record.proofs.Eight.{length_mapped}
use Rattle.codec.proofs.Jobs.{write_plain, write_trimmed}
use Rattle.codec.proofs.Sizes.{trimmed_size}
use Rattle.codec.specs.Codec.{fits_record, record_size, written}
use Rattle.records.proofs.write.Goals as goal

pub returns-then-out-record_size : goal.returns-then-out-record_size
unfolding written fits_record
returns-then-out-record_size c =
    let a = c.args in
    let short = lt-leb (record_size a.version) (length a.out.now) (omega (arith, c.record_size.ensures.0, c.if-out-record_size.true)) in
    (sym short, simp short)

-- In what follows b is the place after the body was stored, and f the one after the buffer was found long enough.
pub put_number-requires : goal.put_number-requires
put_number-requires c =
    let b = c in
    let f = b in
    let s = trimmed_size _ (sym c.says_trimmed.ensures ∙ c.if-says_trimmed.true) in
    let room : 104 ≤ length f.args.out.now = omega (arith, s, f.if-out-record_size.false, f.record_size.ensures.0) in
    simp b.put_body.auto.out (omega (arith, room))

pub returns-then-says_trimmed : goal.returns-then-says_trimmed
unfolding fits_record
returns-then-says_trimmed c =
    let given = c.args in
    let n : length given.job.entries ≡ 8 = search length_mapped in
    let b = c in
    let f = b in
    let a = f.args in
    let fits : record_size a.version ≤ length a.out.now = omega (arith, f.record_size.ensures.0, f.if-out-record_size.false) in
    let says = sym c.says_trimmed.ensures ∙ c.if-says_trimmed.true in
    (sym (le-leb _ _ fits), write_trimmed a.version a.out.now _ _ a.job says n fits b.put_body.ensures c.put_number.ensures)

pub returns-else-says_trimmed : goal.returns-else-says_trimmed
unfolding fits_record
returns-else-says_trimmed c =
    let given = c.args in
    let n : length given.job.entries ≡ 8 = search length_mapped in
    let b = c in
    let f = b in
    let a = f.args in
    let fits : record_size a.version ≤ length a.out.now = omega (arith, f.record_size.ensures.0, f.if-out-record_size.false) in
    let says = sym c.says_trimmed.ensures ∙ c.if-says_trimmed.false in
    (sym (le-leb _ _ fits), write_plain a.version a.out.now _ a.job says n fits b.put_body.ensures)
