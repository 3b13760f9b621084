-- Rulesets that close the returns of code that goes by tests. A numeric test that stands directly in an `if`
-- is turned into the Bool that a definition goes by; a callee's flag is handed over by what the callee ensures.
use mathlib.Core.Bool.{Bool, ◌&&◌, ◌||◌, cond, false, true}
use mathlib.Core.Path.{◌∙◌, ◌≡◌, sym}
use borrow.Author.Tests.{eq-eqb, le-leb, le-ltb, lt-leb, lt-ltb, ne_eqb}

pub ruleset tests = (lt-ltb, le-ltb, le-leb, lt-leb, eq-eqb, ne_eqb)

-- the two ways through a test
pub yes : {A : Type 0} (b : Bool) (x y z : A) → b ≡ true → z ≡ x → z ≡ cond b x y
yes true x y z h e = e
yes false x y z h e = cc

pub no : {A : Type 0} (b : Bool) (x y z : A) → b ≡ false → z ≡ y → z ≡ cond b x y
no true x y z h e = cc
no false x y z h e = e

-- the same of the two connectives
pub and_yes : (a b z : Bool) → a ≡ true → z ≡ b → z ≡ (a && b)
and_yes true b z h e = e
and_yes false b z h e = cc

pub and_no : (a b z : Bool) → a ≡ false → z ≡ false → z ≡ (a && b)
and_no true b z h e = cc
and_no false b z h e = e

pub or_yes : (a b z : Bool) → a ≡ true → z ≡ true → z ≡ (a || b)
or_yes true b z h e = e
or_yes false b z h e = cc

pub or_no : (a b z : Bool) → a ≡ false → z ≡ b → z ≡ (a || b)
or_no true b z h e = cc
or_no false b z h e = e

-- a callee's flag r, which is b
pub flag_true : (b r : Bool) → r ≡ b → r ≡ true → b ≡ true
flag_true b r p q = sym p ∙ q

pub flag_false : (b r : Bool) → r ≡ b → r ≡ false → b ≡ false
flag_false b r p q = sym p ∙ q

pub ruleset chain = (yes, no, and_yes, and_no, or_yes, or_no, flag_true, flag_false, tests)
