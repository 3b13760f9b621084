-- No row of the words is long: each is looked at.
use mathlib.Core.List.{List, [], ◌++◌, ◌∷◌}
use Prim.Native.Nat.{◌≤◌, suc, zero, ℕ}
use native.Mathlib.Omega.{arith}
use lib.ListN.{get_or}
use Rattle.rows.specs.Items.{form_of}
use Rattle.rows.specs.Table.{letters}
use Rattle.rows.specs.Writing.{longest_by}
use Rattle.explanations.specs.Answers.{job_row}
use Rattle.explanations.specs.Words.{reason, reasons, status}

-- each row of a table
abbrev Each : (List ℕ → Type 0) → List (List ℕ) → Type 0
Each P [] = P []
Each P (r ∷ rs) = P r × Each P rs

each_at : (P : List ℕ → Type 0) (t : List (List ℕ)) → Each P t → (k : ℕ) → P (get_or t k [])
each_at P [] h k = h
each_at P (r ∷ rs) h zero = h.0
each_at P (r ∷ rs) h (suc k) = each_at P rs h.1 k

pub reason_brief : (k : ℕ) → longest_by (reason k) ≤ 128
unfolding reason longest_by form_of
reason_brief k = each_at (λ r. longest_by r ≤ 128) reasons (
  omega arith,
  (
    omega arith,
    (
      omega arith,
      (
        omega arith,
        (
          omega arith,
          (
            omega arith,
            (
              omega arith,
              (
                omega arith,
                (
                  omega arith,
                  (
                    omega arith,
                    (
                      omega arith,
                      (
                        omega arith,
                        (
                          omega arith,
                          (
                            omega arith,
                            (
                              omega arith,
                              (
                                omega arith,
                                (
                                  omega arith,
                                  (
                                    omega arith,
                                    (
                                      omega arith,
                                      (
                                        omega arith,
                                        (omega arith, (omega arith, (omega arith, (omega arith, omega arith)))),
                                      ),
                                    ),
                                  ),
                                ),
                              ),
                            ),
                          ),
                        ),
                      ),
                    ),
                  ),
                ),
              ),
            ),
          ),
        ),
      ),
    ),
  ),
) k

pub job_brief : (k : ℕ) → longest_by (job_row k) ≤ 128
unfolding status longest_by form_of
job_brief k =
    each_at (λ r. longest_by (letters "job # " ++ (r ++ letters ": signatures #, acknowledgements #, still to sign ")) ≤ 128)
    (letters "open" ∷ letters "certified" ∷ letters "finished" ∷ []) (omega arith, (omega arith, (omega arith, omega arith))) k
