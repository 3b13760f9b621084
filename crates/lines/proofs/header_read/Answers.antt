-- The ways through the tests of the header.
use Rattle.lines.proofs.Headers.{bad_header, no_header, right_header, unlawful_header}
use native.Mathlib.Omega.{arith}
use Rattle.lines.proofs.header_read.Goals as goal

pub returns-then-k-ge2 : goal.returns-then-k-ge2
returns-then-k-ge2 c =
    let chosen = c in
    let start = chosen in
    no_header start.args.at start.requires.0 _ chosen.row_for-k.ensures _ _ c.if-k-ge2.true c.wrong.ensures

pub returns-then-p-ne0 : goal.returns-then-p-ne0
returns-then-p-ne0 c =
    let own = c in
    let put = own in
    let first = put in
    let chosen = first in
    let start = chosen in
    bad_header start.args.at start.requires.0 _ chosen.row_for-k.ensures _ first.if-k-ge2.false put.put-end.ensures.0 own.own_read-p.ensures _
    c.if-p-ne0.true c.wrong-then-p-ne0.ensures

pub returns-then-is_lawful : goal.returns-then-is_lawful
returns-then-is_lawful c =
    let own = c in
    let put = own in
    let first = put in
    let chosen = first in
    let start = chosen in
    right_header start.args.at start.requires.0 _ chosen.row_for-k.ensures _ first.if-k-ge2.false put.put-end.ensures.0 own.own_read-p.ensures
    c.if-p-ne0.false (omega (arith, start.requires.1)) _ _ c.front.ensures.0
    c.is_lawful.ensures c.if-is_lawful.true

pub returns : goal.returns
returns c =
    let own = c in
    let put = own in
    let first = put in
    let chosen = first in
    let start = chosen in
    unlawful_header start.args.at start.requires.0 _ chosen.row_for-k.ensures _ first.if-k-ge2.false put.put-end.ensures.0 own.own_read-p.ensures
    c.if-p-ne0.false (omega (arith, start.requires.1)) _ _ _
    c.front.ensures.0 c.is_lawful.ensures c.if-is_lawful.false c.wrong-2.ensures
