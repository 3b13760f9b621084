-- What the memo knows is the age; else the arrived jobs are a list of their own, along which it is found.
use mathlib.Core.Path.{◌∙◌, sym}
use Rattle.generations.proofs.Memos.{found_taken, memo_age, ready_taken, taken_length}
use Rattle.generations.proofs.age.Goals as goal

pub returns-then-known-gt0 : goal.returns-then-known-gt0
returns-then-known-gt0 c =
    let s = c in
    let known = c.byte_at-known.ensures in
    record {
      value = c.from.ensures ∙ rw (sym known) at (memo_age _ _ _ _ s.requires.right s.args.job (rw known at c.if-known-gt0.true));
      memo = s.requires.right;
      memo_len = s.requires.size;
    }

pub returns : goal.returns
returns c =
    let s = c in
    let a = c.age_along in
    let found = found_taken _ _ _ _ _ _ _ _ s.requires _ _ _ a.ensures.value a.ensures.memo in
    record {
      value = c.from-2.ensures ∙ found.0;
      memo = found.1;
      memo_len = a.auto.memo ∙ s.requires.size;
    }

pub slice_bounds-age_along-end : goal.slice_bounds-age_along-end
slice_bounds-age_along-end c = taken_length _ _ _ _ _ _ _ _ c.requires

pub age_along-requires : goal.age_along-requires
age_along-requires c = ready_taken _ _ _ _ _ _ _ _ c.requires
