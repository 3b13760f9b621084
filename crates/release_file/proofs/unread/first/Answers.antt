-- What is sought is still what is sought from here on.
use mathlib.Core.Path.{◌∙◌, sym}
use Prim.Native.Nat.{◌-◌}
use native.Mathlib.Omega.{arith}
use Rattle.release_file.proofs.Walk.{first_unread, next_unread, none_unread, walk_begins}
use Rattle.runfile.proofs.Turns.{open_when}
use Rattle.release_file.proofs.unread.first.Goals as goal

pub loop-pos-init : goal.loop-pos-init
loop-pos-init c =
    let o = open_when c.args.input.now c.requires in
    (omega arith, (o.headed, (o.few, walk_begins c.args.input.now c.word_at-version.result c.word_at-version.ensures)))

pub step_at-step-requires : goal.step_at-step-requires
step_at-step-requires c = (c.loop-pos-test.true, c.loop-pos.invariant.1.1.0)

pub returns-then-is_unknown : goal.returns-then-is_unknown
returns-then-is_unknown c =
    let l = c.loop-pos in
    let t = c.loop-pos-test.true in
    let kind = c.step_at-step.ensures.kind_is in
    let unknown = sym c.is_unknown.ensures ∙ c.if-is_unknown.true in
    let is = first_unread _ _ l.pos l.count t l.invariant.0 _ kind unknown in
    (sym (l.invariant.1.1.1 ∙ is), omega arith, omega (arith, l.invariant.0, l.invariant.1.0, l.invariant.1.1.0))

pub loop-pos-smaller : goal.loop-pos-smaller
loop-pos-smaller c =
    let s = c.step_at-step.ensures in
    omega (arith, s.onward, s.inside)

pub loop-pos-preserved : goal.loop-pos-preserved
loop-pos-preserved c =
    let l = c.loop-pos in
    let t = c.loop-pos-test.true in
    let s = c.step_at-step.ensures in
    let read = sym c.is_unknown.ensures ∙ c.if-is_unknown.false in
    let on = next_unread _ _ l.pos l.count t l.invariant.0 _ s.kind_is read _ s.end_is in
    (omega (arith, s.onward, l.invariant.0), (s.inside, (l.invariant.1.1.0, l.invariant.1.1.1 ∙ on)))

pub returns : goal.returns
returns c =
    let l = c.loop-pos in
    l.invariant.1.1.1 ∙ none_unread _ _ l.pos l.count _ c.loop-pos-test.false
