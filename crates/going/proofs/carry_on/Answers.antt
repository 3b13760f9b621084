-- A turn of the loop is a step of the run (proofs/Turning.antt), after which it has come further.
use Prim.Native.Nat.{◌-◌}
use borrow.Author.Rules.{rules}
use Rattle.going.proofs.Turning.{come_on, few_vaults, loud_placed, numbered, reads_on, to_look_up, to_survey, took_loud, took_quiet, took_wide}
use Rattle.going.proofs.Turning.{turning}
use Rattle.going.proofs.Slices.{still_same, still_surveyed}
use Rattle.going.proofs.carry_on.Goals as goal

ruleset by = (turning, rules)

-- In what follows s is the place after the step was read and h that after it was seen that the run goes on; t is what holds at the loop's head. The step
-- was seen to look at one vault or at all at n, and was carried out at v.
pub step_at-s-requires : goal.step_at-s-requires
step_at-s-requires c =
    let h = c in
    ((h.goes_on.ensures.on c.loop-s-test.true).0, h.loop-s.invariant.0.going.few)

pub survey-r-requires : goal.survey-r-requires
survey-r-requires c =
    let s = c in
    let h = s in
    let t = h.loop-s.invariant.0 in
    let o = h.goes_on.ensures.on s.loop-s-test.true in
    (few_vaults t, to_look_up t, to_survey t, t.right, numbered t _ o.0 s.step_at-s.ensures, o.1)

pub loop-s-smaller-then-s : goal.loop-s-smaller-then-s
loop-s-smaller-then-s c =
    let v = c in
    let n = v in
    let s = n in
    reads_on s.step_at-s.ensures _ c.surveyed-c.ensures

pub loop-s-preserved-then-s : goal.loop-s-preserved-then-s
loop-s-preserved-then-s c =
    let v = c in
    let n = v in
    let s = n in
    let h = s in
    let t = h.loop-s.invariant.0 in
    let o = h.goes_on.ensures.on s.loop-s-test.true in
    let same = v.survey-r.auto.out in (
      come_on t _ _ _ _ _ _ _ _ _ o.0 o.2
          (took_wide _ _ _ _ _ _ _ _ _ t.going o.0 o.1 _ s.step_at-s.ensures _ _ _ _ n.if-s.true v.survey-r.ensures same _
          c.surveyed-c.ensures),
      still_surveyed v.survey-r.auto.memo same h.loop-s.invariant.1,
    )

pub carry_out-r-requires : goal.carry_out-r-requires
carry_out-r-requires c =
    let s = c in
    let h = s in
    let t = h.loop-s.invariant.0 in
    let o = h.goes_on.ensures.on s.loop-s-test.true in
    (s.step_at-s.ensures.asked, t.going.kept.indexed, numbered t _ o.0 s.step_at-s.ensures, o.1)

pub loop-s-smaller-then-is_nothing : goal.loop-s-smaller-then-is_nothing
loop-s-smaller-then-is_nothing c =
    let v = c in
    let n = v in
    let s = n in
    reads_on s.step_at-s.ensures _ c.carried_out-c.ensures

pub loop-s-preserved-then-is_nothing : goal.loop-s-preserved-then-is_nothing
loop-s-preserved-then-is_nothing c =
    let v = c in
    let n = v in
    let s = n in
    let h = s in
    let t = h.loop-s.invariant.0 in
    let o = h.goes_on.ensures.on s.loop-s-test.true in
    let same = v.carry_out-r.auto.out in (
      come_on t _ _ _ _ _ _ _ _ _ o.0 o.2
          (took_quiet _ _ _ _ _ _ _ _ _ t.going o.0 o.1 _ s.step_at-s.ensures n.if-s.false _ _ _ _ _ _ v.carry_out-r.ensures _
          c.is_nothing.ensures c.if-is_nothing.true _ t.right same _ c.carried_out-c.ensures),
      still_same v.carry_out-r.auto.numbers v.carry_out-r.auto.sets v.carry_out-r.auto.records v.carry_out-r.auto.journal same
          h.loop-s.invariant.1,
    )

pub apply-ledger-requires : goal.apply-ledger-requires
apply-ledger-requires c =
    let v = c in
    let n = v in
    let s = n in
    let h = s in
    let t = h.loop-s.invariant.0 in
    let o = h.goes_on.ensures.on s.loop-s-test.true in
    loud_placed _ _ h.loop-s.c _ _ _ _ _ _ t.going o.0 o.1 _ s.step_at-s.ensures n.if-s.false _ _ _ _ _ _
    v.carry_out-r.ensures _ c.is_nothing.ensures c.if-is_nothing.false

pub loop-s-smaller : goal.loop-s-smaller
loop-s-smaller c =
    let a = c in
    let v = a in
    let n = v in
    let s = n in
    reads_on s.step_at-s.ensures _ a.carried_out-c.ensures

pub loop-s-preserved : goal.loop-s-preserved
loop-s-preserved c =
    let a = c in
    let v = a in
    let n = v in
    let s = n in
    let h = s in
    let t = h.loop-s.invariant.0 in
    let o = h.goes_on.ensures.on s.loop-s-test.true in
    let same = v.carry_out-r.auto.out in (
      come_on t _ _ _ _ _ _ _ _ _ o.0 o.2
          (took_loud _ _ _ _ _ _ _ _ _ t.going o.0 o.1 _ s.step_at-s.ensures n.if-s.false _ _ _ _ _ _ v.carry_out-r.ensures _
          a.is_nothing.ensures a.if-is_nothing.false _ a.apply-ledger.ensures _ t.right same _
          a.carried_out-c.ensures _ c.still-named.ensures),
      still_same v.carry_out-r.auto.numbers v.carry_out-r.auto.sets v.carry_out-r.auto.records v.carry_out-r.auto.journal same
          h.loop-s.invariant.1,
    )

pub loop-s-init : goal.loop-s-init
loop-s-init c = search by

pub goes_on-requires : goal.goes_on-requires
goes_on-requires c = search by

pub overflow_add-c : goal.overflow_add-c
overflow_add-c c = search by

pub surveyed-c-requires : goal.surveyed-c-requires
surveyed-c-requires c = search by

pub overflow_cast-view : goal.overflow_cast-view
overflow_cast-view c = search by

pub offset_bounds-ledger-s : goal.offset_bounds-ledger-s
offset_bounds-ledger-s c = search by

pub bounds-ledger-s : goal.bounds-ledger-s
bounds-ledger-s c = search by

pub overflow_cast-view-in-loop-s : goal.overflow_cast-view-in-loop-s
overflow_cast-view-in-loop-s c = search by

pub offset_bounds-ledger-s-in-loop-s : goal.offset_bounds-ledger-s-in-loop-s
offset_bounds-ledger-s-in-loop-s c = search by

pub bounds-ledger-s-in-loop-s : goal.bounds-ledger-s-in-loop-s
bounds-ledger-s-in-loop-s c = search by

pub offset_bounds-ledger-s-in-loop-s-2 : goal.offset_bounds-ledger-s-in-loop-s-2
offset_bounds-ledger-s-in-loop-s-2 c = search by

pub bounds-ledger-s-in-loop-s-2 : goal.bounds-ledger-s-in-loop-s-2
bounds-ledger-s-in-loop-s-2 c = search by

pub overflow_cast-view-in-loop-s-2 : goal.overflow_cast-view-in-loop-s-2
overflow_cast-view-in-loop-s-2 c = search by

pub offset_bounds-ledger-ledger : goal.offset_bounds-ledger-ledger
offset_bounds-ledger-ledger c = search by

pub bounds-ledger-ledger : goal.bounds-ledger-ledger
bounds-ledger-ledger c = search by

pub carried_out-c-requires : goal.carried_out-c-requires
carried_out-c-requires c = search by

pub is_nothing-requires : goal.is_nothing-requires
is_nothing-requires c = search by

pub overflow_cast-votes : goal.overflow_cast-votes
overflow_cast-votes c = search by

pub offset_bounds-ledger-s-in-loop-s-3 : goal.offset_bounds-ledger-s-in-loop-s-3
offset_bounds-ledger-s-in-loop-s-3 c = search by

pub bounds-ledger-s-in-loop-s-3 : goal.bounds-ledger-s-in-loop-s-3
bounds-ledger-s-in-loop-s-3 c = search by

pub still-named-requires : goal.still-named-requires
still-named-requires c = search by

pub handed-requires : goal.handed-requires
handed-requires c = search by

pub shape_of-memo : goal.shape_of-memo
shape_of-memo c = search by

pub shape_of-journal : goal.shape_of-journal
shape_of-journal c = search by

pub shape_of-numbers : goal.shape_of-numbers
shape_of-numbers c = search by

pub shape_of-sets : goal.shape_of-sets
shape_of-sets c = search by

pub shape_of-records : goal.shape_of-records
shape_of-records c = search by

pub shape_of-out : goal.shape_of-out
shape_of-out c = search by

pub returns : goal.returns
returns c = search by
