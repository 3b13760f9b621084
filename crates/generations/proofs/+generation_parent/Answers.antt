-- Generations and what an input brings, together.
use Rattle.std.proofs.Common.{◌∙◌, ap, refl, sym, arith, le_antisymm}
use Rattle.journal.specs.Journal.{job_at}
use Rattle.index.proofs.Inside.{room_at, slot_booked}
use Rattle.generations.specs.Generations.{along}
use Rattle.generations.specs.Memo.{inputs_of}
use Rattle.generations.proofs.Ages.{generation_le, input_from, input_new, input_used, most_end, most_le, most_more, most_start}
use Rattle.generations.proofs.Creators.{creator_first, creator_is, inputs_le, past_none}
use Rattle.generations.proofs.Memos.{memo_known, memo_set}
use Rattle.generations.proofs.+generation_parent.Goals as goal

-- the job at p, which is not booked: no inputs
pub generation-returns-then-job-booked-clause-value : goal.generation-returns-then-job-booked-clause-value
generation-returns-then-job-booked-clause-value t c =
    past_none _ _ _ c.args.order.now c.args.p _ c.from-job.ensures c.if-job-booked.true

-- it is known
pub generation-returns-then-known-gt0-clause-value : goal.generation-returns-then-known-gt0-clause-value
generation-returns-then-known-gt0-clause-value t c =
    memo_known _ _ _ _ c.requires.ready.right _ _ c.if-known-gt0.true
    (rw (sym c.from-job.ensures) at c.requires.first_at)

-- its inputs
pub generation-inputs-count-requires : goal.generation-inputs-count-requires
generation-inputs-count-requires t c =
    room_at c.args.version c.args.journal.now _ _ c.requires.ready.inside c.if-job-booked.false

pub generation-loop-i-init : goal.generation-loop-i-init
generation-loop-i-init t c = record {
  upto = omega arith;
  counted =
      c.inputs-count.ensures ∙ ap inputs_of (slot_booked _ _ _ _ c.requires.ready.inside c.if-job-booked.false);
  same = refl;
  right = c.requires.ready.right;
  is = most_start _ _ _;
}

pub generation-parent-next-requires : goal.generation-parent-next-requires
generation-parent-next-requires t c =
    let ready = c.requires.ready in
    let l = c.loop-i in
    let j = job_at c.args.version c.args.journal.now c.args.booked c.from-job.result in (
      omega arith,
      (
        record {
          few = ready.few;
          inside = ready.inside;
          entered = ready.entered;
          short = ready.short;
          placed = ready.placed;
          size = l.invariant.same ∙ ready.size;
          right = l.invariant.right;
        },
        record {
          placed = c.requires.first_at.below;
          at = sym c.from-job.ensures;
          below = c.if-job-booked.false;
          four = omega (arith, l.invariant.counted, inputs_le j);
          used = input_used j l.i (omega (arith, l.invariant.counted));
        },
      ),
    )

pub generation-loop-i-preserved : goal.generation-loop-i-preserved
generation-loop-i-preserved t c =
    let l = c.loop-i in
    let p = c.parent-next in
    record {
      upto = omega arith;
      counted = l.invariant.counted;
      same = p.auto.memo ∙ l.invariant.same;
      right = p.ensures.memo;
      is = most_more _ _ _ _ _ _ _ l.invariant.is p.ensures.value c.max-most.ensures;
    }

-- what is found is put down
pub generation-overflow_add-memo : goal.generation-overflow_add-memo
generation-overflow_add-memo t c = omega (arith, most_le _ _ _ _ _ c.loop-i.invariant.is)

pub generation-returns-clause-value : goal.generation-returns-clause-value
generation-returns-clause-value t c =
    let l = c.loop-i in
    most_end (job_at c.args.version c.args.journal.now c.args.booked) (along c.args.order.now) c.args.p _ _ l.invariant.is
    (le_antisymm l.invariant.upto c.loop-i-test.false ∙ rw c.from-job.ensures at l.invariant.counted)

pub generation-returns-clause-memo : goal.generation-returns-clause-memo
generation-returns-clause-memo t c =
    let l = c.loop-i in
    let done =
    most_end (job_at c.args.version c.args.journal.now c.args.booked) (along c.args.order.now) c.args.p _ _ l.invariant.is
    (le_antisymm l.invariant.upto c.loop-i-test.false ∙ rw c.from-job.ensures at l.invariant.counted) in
    memo_set _ _ _ _ l.invariant.right _ _ _ (omega arith) (rw (sym c.from-job.ensures) at c.requires.first_at) done

-- the creator's generations
pub parent-generation-requires : goal.parent-generation-requires
parent-generation-requires t c = (
  omega arith,
  (
    c.requires.ready,
    creator_first _ _ _ _ _ (sym c.in-Some.ensures.1) c.in-Some.ensures.0 (omega (arith, c.requires.input.placed)),
  ),
)

pub parent-overflow_add-result : goal.parent-overflow_add-result
parent-overflow_add-result t c =
    omega (
      arith,
      c.generation.ensures.value,
      c.requires.ready.short,
      c.requires.input.placed,
      c.in-Some.ensures.0,
      generation_le (job_at c.args.version c.args.journal.now c.args.booked) (along c.args.order.now) c.in-Some.q,
    )

pub parent-returns-in-Some-clause-value : goal.parent-returns-in-Some-clause-value
parent-returns-in-Some-clause-value t c =
    let ready = c.requires.ready in
    let input = c.requires.input in
    let made =
    creator_is _ _ _ _ _ _ ready.few ready.inside ready.entered _ _ _ _ _ input c.makers-makers.ensures.0
    (sym c.in-Some.ensures.1) in
    let from = input_from _ _ _ _ _ (rw (sym input.at) at input.used) made c.in-Some.ensures.0 in
    omega (arith, c.generation.ensures.value, from)

pub parent-returns-in-None-clause-value : goal.parent-returns-in-None-clause-value
parent-returns-in-None-clause-value t c =
    let ready = c.requires.ready in
    let input = c.requires.input in
    let made =
    creator_is _ _ _ _ _ _ ready.few ready.inside ready.entered _ _ _ _ _ input c.makers-makers.ensures.0
    (sym c.in-None.ensures) in
    sym (input_new _ _ _ _ _ (rw (sym input.at) at input.used) made (omega arith))
