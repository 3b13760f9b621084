use Rattle.kinds.proofs.Arms.{known_behind}
use Rattle.questions.proofs.Laws.{required_so}
use borrow.Author.Rules.{rules}
use Rattle.questions.proofs.asking.require.Goals as goal

ruleset by = (known_behind, required_so, rules)

pub overflow_cast-at : goal.overflow_cast-at
overflow_cast-at c = search by

pub offset_bounds-vaults-at : goal.offset_bounds-vaults-at
offset_bounds-vaults-at c = search by

pub bounds-vaults-at : goal.bounds-vaults-at
bounds-vaults-at c = search by

pub gate-requires : goal.gate-requires
gate-requires c = search by

pub dependencies-requires : goal.dependencies-requires
dependencies-requires c = search by

pub returns : goal.returns
returns c = search by
