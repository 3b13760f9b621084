-- The test is the definition's, and each way through it writes what the definition has.
use mathlib.Core.Path.{◌∙◌, sym}
use native.Mathlib.Omega.{arith}
use borrow.Author.Rules.{rules}
use Rattle.load.proofs.Requests.{answered, asked, declined}
use Rattle.load_writer.proofs.load.Goals as goal

pub seed_of-requires : goal.seed_of-requires
seed_of-requires c = (asked _ (sym c.is_request.ensures ∙ c.if-is_request.true)).ten

pub bounds-input-8 : goal.bounds-input-8
bounds-input-8 c = let h = asked _ (sym c.is_request.ensures ∙ c.if-is_request.true) in
    omega (arith, h.ten)

pub bounds-input-9 : goal.bounds-input-9
bounds-input-9 c = let h = asked _ (sym c.is_request.ensures
    ∙ c.if-is_request.true) in omega (arith, h.ten)

pub put_load-requires : goal.put_load-requires
put_load-requires c = let h = asked _ (sym c.is_request.ensures
    ∙ c.if-is_request.true) in (h.vaults, h.few, search rules)

pub returns-then-is_request : goal.returns-then-is_request
returns-then-is_request c = (
  answered _ _ (sym c.is_request.ensures
      ∙ c.if-is_request.true) c.seed_of.ensures c.put_load.ensures.0,
  c.put_load.ensures.1,
)

pub returns : goal.returns
returns c = (declined _ (sym c.is_request.ensures ∙ c.if-is_request.false) c.write_line.ensures.0, omega arith)
