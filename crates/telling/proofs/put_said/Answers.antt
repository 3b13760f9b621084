-- A step that can be read is written behind a space, and is short.
use Rattle.telling.proofs.Parts.{said_few, said_here, said_none}
use native.Mathlib.Omega.{arith}
use Rattle.telling.proofs.put_said.Goals as goal

pub returns-then-is_unknown : goal.returns-then-is_unknown
returns-then-is_unknown c =
    let test = c in
    (said_none _ _ _ _ test.step_at-step.ensures _ test.is_unknown.ensures _ _ c.if-is_unknown.true, omega arith)

pub put_step-requires : goal.put_step-requires
put_step-requires c =
    let part = c in
    let put = part in
    let way = put in
    let test = way in
    let read = test in
    let pre = read.requires in
    omega (
      arith,
      said_few _ _ _ _ read.step_at-step.ensures _ test.is_unknown.ensures _ part.part.ensures way.if-is_unknown.false pre.0 pre.2 pre.3,
      put.put-end.ensures.1,
      pre.4,
    )

pub returns : goal.returns
returns c =
    let step = c in
    let part = step in
    let put = part in
    let way = put in
    let test = way in
    let read = test in
    let pre = read.requires in (
      said_here _ _ _ _ read.step_at-step.ensures _ test.is_unknown.ensures _ part.part.ensures way.if-is_unknown.false put.put-end.ensures.0
          step.put_step.ensures.0,
      omega (
        arith,
        said_few _ _ _ _ read.step_at-step.ensures _ test.is_unknown.ensures _ part.part.ensures way.if-is_unknown.false pre.0 pre.2 pre.3,
        put.put-end.ensures.1,
        step.put_step.ensures.1,
      ),
    )
