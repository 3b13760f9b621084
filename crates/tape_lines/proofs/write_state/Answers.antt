-- Each arm writes the cells of its own state.
use native.Mathlib.Omega.{arith}
use Rattle.tape_lines.proofs.write_state.Goals as goal

pub returns-in-Stands : goal.returns-in-Stands
returns-in-Stands c =
    let put = c.put.ensures in
    (rw c.in-Stands.is put.0, omega (arith, put.1))

pub returns-in-Keep : goal.returns-in-Keep
returns-in-Keep c =
    let put = c.write_named.ensures in
    (rw c.in-Keep.is put.0, omega (arith, put.1))

pub returns-in-Free : goal.returns-in-Free
returns-in-Free c =
    let put = c.write_named-in-Free.ensures in
    (rw c.in-Free.is put.0, omega (arith, put.1))
