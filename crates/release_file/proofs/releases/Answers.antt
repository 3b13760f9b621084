-- By the three cases: the file is turned back, or cut short, or the list is that of the ledger in which it ends.
use mathlib.Core.Path.{◌∙◌, refl, sym}
use borrow.Author.Rules.{rules}
use borrow.Author.Tests.{not-false}
use Rattle.release_file.proofs.Answers.{back_told, cut_told, list_told}
use Rattle.release_file.specs.Releases.{releases_text}
use Rattle.release_file.proofs.releases.Goals as goal

ruleset by = (back_told, cut_told, list_told, rules)

pub returns-then-not-opens : goal.returns-then-not-opens
unfolding releases_text
returns-then-not-opens c = search by

pub returns-in-Some : goal.returns-in-Some
unfolding releases_text
returns-in-Some c = search by

pub returns-in-None : goal.returns-in-None
unfolding releases_text
returns-in-None c = search by
