-- The step is carried out, and what it answered is explained by the book as it then stands.
use mathlib.Core.Path.{◌∙◌, sym}
use Rattle.explaining.proofs.Telling.{kept_tables, to_hold, to_read, to_turn, to_write, told_once}
use borrow.Author.Rules.{rules}
use Rattle.explaining.proofs.next.Goals as goal

pub turn-t-requires : goal.turn-t-requires
turn-t-requires c =
    let front = c in
    let start = front in
    let p = start.args.progress in
    let e = front.at_front-start.ensures in (
      to_turn p _ e _ _ _ _ _ _ start.requires.0,
      to_hold p _ e _ _ start.requires.1,
      to_read p _ e start.args.input.now start.requires.2,
      search (to_write p _ e, rules),
    )

pub put_step-written-requires : goal.put_step-written-requires
put_step-written-requires c =
    let once = c in
    let front = once in
    let start = front in
    let v = once.turn-t.ensures.going.kept.sane.lawful.version in (
      start.requires.2,
      start.requires.0.few,
      v.0,
      v.1,
      start.requires.3,
    )

pub shape_of-memo : goal.shape_of-memo
shape_of-memo c =
    let step = c in
    let told = step in
    let once = told in
    let start = once in
    once.turn-t.ensures.going.kept.memo_size ∙ sym start.requires.0.kept.memo_size

pub shape_of-journal : goal.shape_of-journal
shape_of-journal c =
    let step = c in
    let told = step in
    let once = told in
    let start = once in
    once.turn-t.ensures.going.kept.journal_sized ∙ sym start.requires.0.kept.journal_sized

pub shape_of-numbers : goal.shape_of-numbers
shape_of-numbers c =
    let step = c in
    let told = step in
    let once = told in
    let start = once in
    (kept_tables once.turn-t.ensures.going.kept).numbers_sized ∙ sym (kept_tables start.requires.0.kept).numbers_sized

pub shape_of-sets : goal.shape_of-sets
shape_of-sets c =
    let step = c in
    let told = step in
    let once = told in
    let start = once in
    (kept_tables once.turn-t.ensures.going.kept).sets_sized ∙ sym (kept_tables start.requires.0.kept).sets_sized

pub returns : goal.returns
returns c =
    let step = c in
    let told = step in
    let once = told in
    let front = once in
    let start = front in
    told_once _ _ _ _ _ _ _ _ _ _ _ _ _ _ _ _ front.at_front-start.ensures start.requires.0 start.requires.2 once.turn-t.ensures _ _ _ _
    start.requires.3 step.put_step-written.ensures.0 step.put_step-written.ensures.1 c.said_by.ensures
