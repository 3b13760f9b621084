-- The loop over the lines: what has been made, with the lines that remain, makes what the whole text makes.
use mathlib.Core.Bool.{Bool, cond, false, true}
use mathlib.Core.List.{List, [], ◌++◌}
use mathlib.Core.Path.{◌∙◌, ◌≡◌, ap, refl, sym}
use Prim.Native.Nat.{◌+◌, ◌-◌, ◌<◌, ◌≤◌, suc, zero, ℕ}
use native.Mathlib.Omega.{arith}
use lib.Dec.{eqb, leb}
use native.Mathlib.Nat.{zero-add}
use lib.ListN.{drop, length, length-append, length-drop, take}
use lib.Seq.{length-sets}
use borrow.Author.Tests.{eq-eqb, eqb-false, eqb-true, le-leb, leb-true, lt-leb, ne_eqb}
use Rattle.base.proofs.Reflect.{by_test}
use Rattle.digits.proofs.Writing.{made as Made-so, then}
use Rattle.digits.specs.Digits.{Put}
use Rattle.rows.proofs.Sound.{if_fine}
use Rattle.rows.specs.Reading.{Parsed as Read}
use Rattle.runfile.specs.Run.{longest, version_in}
use Rattle.notation.specs.Files.{Made as Said, after_line, assembled, finished, header_read, is_none, line_over, line_read, made_from, skip_blanks, taken}
use Rattle.notation.specs.Files.{too_long}
use Rattle.notation.specs.Lines.{more_text, step_read}
use Rattle.parsing.specs.Took.{ReadTo}
use Rattle.parsing.specs.declared.Parsed.{Parsed}
use Rattle.lines.proofs.Headers.{line_read_lem}
use Rattle.lines.specs.LineTo.{LineTo}
use Rattle.parsing.proofs.Turns.{at_end}
use Rattle.assembly.specs.Assembles.{Assembles, Judged, ending}
use Rattle.assembly.specs.declared.Made.{Made}

-- ---- a line judged
module _ (text : List ℕ) (p : Parsed) (end : ℕ) where
  pub judged_wrong : (p.reason ≡ 0 → ⊥) → Judged text p end p.reason
  judged_wrong n = record { is = sym (rw (ne_eqb p.reason 0 n)) }

  module _ (n : ℕ) (b : Bool) (z : p.reason ≡ 0) (e : drop n text ≡ skip_blanks (drop p.next text)) (q : b ≡ line_over (drop n text)) where
    over : line_over (skip_blanks (drop p.next text)) ≡ b
    over = ap line_over (sym e) ∙ sym q

    pub judged_more : b ≡ false → Judged text p end 8
    judged_more f = record { is = sym (rw (eq-eqb p.reason 0 z, over ∙ f)) }

    pub judged_long : end ≤ longest → b ≡ true → longest - end < p.end → Judged text p end 13
    judged_long h t l = record { is = sym (rw (eq-eqb p.reason 0 z, over ∙ t, lt-leb (end + p.end) longest (omega arith))) }

    pub judged_fine : end ≤ longest → b ≡ true → p.end ≤ longest - end → Judged text p end 0
    judged_fine h t l = record { is = sym (rw (eq-eqb p.reason 0 z, over ∙ t, le-leb (end + p.end) longest (omega arith))) }

pub ruleset judgements = (judged_wrong, judged_more, judged_long, judged_fine)

-- ---- a line after some bytes
module _ {text before after : List ℕ} {r : Parsed} (made : List ℕ) (at : ℕ) where
  pub header_line_lem : length made ≡ 0 → LineTo (header_read (drop at text)) text 0 before after r → LineTo (line_read made (drop at text)) text 0 before after r
  unfolding line_read
  header_line_lem e d = rw (eq-eqb (length made) 0 e) d

  pub step_line : (v : ℕ) → (length made ≡ 0 → ⊥) → v ≡ version_in made → ReadTo (step_read v (drop at text)) text 0 before after r
      → LineTo (line_read made (drop at text)) text 0 before after r
  unfolding line_read
  step_line v n q d = rw (ne_eqb (length made) 0 n, sym q) (line_read_lem d)

-- ---- the lines
abbrev making : ℕ → List ℕ → Said
making line bytes = record { reason = 0; line = line; bytes = bytes }

module _ (m : Said) (p : Read) where
  -- a line that is taken, and one that is not
  took : (taken m p).reason ≡ 0 → taken m p ≡ making (m.line + 1) (m.bytes ++ p.bytes)
  unfolding taken
  took =
      if_fine (λ (x : Said). x.reason ≡ 0 → x ≡ making (m.line + 1) (m.bytes ++ p.bytes)) (eqb p.reason 0) _ _
      (λ a. if_fine (λ (x : Said). x.reason ≡ 0 → x ≡ making (m.line + 1) (m.bytes ++ p.bytes)) (line_over (skip_blanks p.rest)) _ _
      (λ b. if_fine (λ (x : Said). x.reason ≡ 0 → x ≡ making (m.line + 1) (m.bytes ++ p.bytes)) (leb (length (m.bytes ++ p.bytes)) longest) _ _
      (λ c r. refl) (λ c r. absurd (omega arith)))
      (λ b r. absurd (omega arith)))
      (λ a r. absurd (eqb-false p.reason 0 a r))

  read_fine : (taken m p).reason ≡ 0 → p.reason ≡ 0
  unfolding taken
  read_fine =
      if_fine (λ (x : Said). x.reason ≡ 0 → p.reason ≡ 0) (eqb p.reason 0) _ _ (λ a r. eqb-true p.reason 0 a)
      (λ a r. r)

  small : (taken m p).reason ≡ 0 → length (m.bytes ++ p.bytes) ≤ longest
  unfolding taken
  small =
      if_fine (λ (x : Said). x.reason ≡ 0 → length (m.bytes ++ p.bytes) ≤ longest) (eqb p.reason 0) _ _
      (λ a. if_fine (λ (x : Said). x.reason ≡ 0 → length (m.bytes ++ p.bytes) ≤ longest) (line_over (skip_blanks p.rest)) _ _
      (λ b. if_fine (λ (x : Said). x.reason ≡ 0 → length (m.bytes ++ p.bytes) ≤ longest) (leb (length (m.bytes ++ p.bytes)) longest) _ _
      (λ c r. leb-true _ longest c) (λ c r. absurd (omega arith)))
      (λ b r. absurd (omega arith)))
      (λ a r. absurd (eqb-false p.reason 0 a r))

  left_out : ((taken m p).reason ≡ 0 → ⊥) → taken m p ≡ record { reason = (taken m p).reason; line = m.line; bytes = m.bytes }
  unfolding taken
  left_out =
      if_fine (λ (x : Said). (x.reason ≡ 0 → ⊥) → x ≡ record { reason = x.reason; line = m.line; bytes = m.bytes }) (eqb p.reason 0) _ _
      (λ a. if_fine (λ (x : Said). (x.reason ≡ 0 → ⊥) → x ≡ record { reason = x.reason; line = m.line; bytes = m.bytes })
      (line_over (skip_blanks p.rest)) _ _
      (λ b. if_fine (λ (x : Said). (x.reason ≡ 0 → ⊥) → x ≡ record { reason = x.reason; line = m.line; bytes = m.bytes })
      (leb (length (m.bytes ++ p.bytes)) longest) _ _
      (λ c r. absurd (r refl)) (λ c r. refl))
      (λ b r. refl))
      (λ a r. refl)

reasons : (a b : Bool) (line : ℕ) (x y : List ℕ) → cond a (cond b 0 too_long) more_text
    ≡ (cond a (cond b (making (line + 1) x) (record { reason = too_long; line = line; bytes = y })) (record { reason = more_text; line = line; bytes = y })).reason
reasons true true line x y = refl
reasons true false line x y = refl
reasons false b line x y = refl

-- how a line was judged is why it is not taken
judged_so : {text before after : List ℕ} {p : Parsed} (said : Read) (made : List ℕ) (line w : ℕ) → LineTo said text 0 before after p
    → Judged text p (length made) w → w ≡ (taken (making line made) said).reason
unfolding taken
judged_so {text} {before} {after} {p} said made line w l j =
    by_test (eqb said.reason 0)
    (λ e.
    let z = eqb-true said.reason 0 e in
    let q : length made + p.end ≡ length (made ++ said.bytes) = omega (arith, l.ends z, length-append made said.bytes) in
    j.is ∙ rw (l.reason_is, l.rest_is z, q, e)
    (reasons (line_over (skip_blanks said.rest)) (leb (length (made ++ said.bytes)) longest) line (made ++ said.bytes) made))
    (λ e. j.is ∙ rw (l.reason_is, e))

pub record Making (text : List ℕ) (left at end line : ℕ) (before out : List ℕ) : Type 0 where
  pub remains : made_from left (making line (take end out)) (drop at text) ≡ made_from (length text) (making 1 []) text
  pub inside : at ≤ length text
  pub few : end ≤ longest
  pub lines : line + left ≤ length text + 1
  pub size : longest ≤ length before
  pub put : Put before 0 (take end out) out end

module _ (n : ℕ) (m : Said) (l : List ℕ) (full : is_none l ≡ false) where
  blank_next : line_over (skip_blanks l) ≡ true
      → made_from (suc n) m l ≡ made_from n (record { reason = 0; line = m.line + 1; bytes = m.bytes }) (after_line (skip_blanks l))
  unfolding made_from
  blank_next o = rw (full, o)

  module _ (o : line_over (skip_blanks l) ≡ false) where
    line_next : (taken m (line_read m.bytes (skip_blanks l))).reason ≡ 0 → let p = line_read m.bytes (skip_blanks l) in
        made_from (suc n) m l ≡ made_from n (taken m p) (after_line p.rest)
    unfolding made_from
    line_next z = rw (full, o, eq-eqb (taken m (line_read m.bytes (skip_blanks l))).reason 0 z)

    line_stop : ((taken m (line_read m.bytes (skip_blanks l))).reason ≡ 0 → ⊥) → made_from (suc n) m l ≡ taken m (line_read m.bytes (skip_blanks l))
    unfolding made_from
    line_stop z = rw (full, o, ne_eqb (taken m (line_read m.bytes (skip_blanks l))).reason 0 z)

made_end : (n : ℕ) (m : Said) → made_from n m [] ≡ m
unfolding made_from
made_end zero m = refl
made_end (suc n) m = refl

rest_full : (text : List ℕ) (at : ℕ) → at < length text → is_none (drop at text) ≡ false
rest_full text at h = ne_eqb (length (drop at text)) 0 (λ e. omega (arith, e, length-drop at text))

-- what a text comes to, by what is made when nothing remains
ended : (text : List ℕ) (end line : ℕ) (before out : List ℕ) → end ≤ length before → Put before 0 (take end out) out end
    → made_from (length text) (making 1 []) text ≡ making line (take end out) → Assembles (assembled text) before out (ending line end)
unfolding assembled finished
ended text end line before out h p q =
    rw q
    (by_test (eqb end 0)
    (λ e.
    let n : end ≡ 0 = eqb-true end 0 e in
    let z : is_none (take end out) ≡ true = rw n in
    rw (e, z) (record { reason_is = refl; line_is = refl; bytes_are = rw n at p; inside = omega arith }))
    (λ e.
    let z : is_none (take end out) ≡ false = ne_eqb (length (take end out)) 0 (λ y. eqb-false end 0 e (omega (arith, p.moved, y))) in
    rw (e, z) (record { reason_is = refl; line_is = refl; bytes_are = p; inside = h })))

-- and by a line that is wrong
stopped : (text : List ℕ) (end line w : ℕ) (before out : List ℕ) → end ≤ length before → Put before 0 (take end out) out end → (w ≡ 0 → ⊥)
    → made_from (length text) (making 1 []) text ≡ record { reason = w; line = line; bytes = take end out }
    → Assembles (assembled text) before out (record { reason = w; line = line; end = end })
unfolding assembled finished
stopped text end line w before out h p n q =
    rw (q, ne_eqb w 0 n) (record { reason_is = refl; line_is = refl; bytes_are = p; inside = h })

module _ {text : List ℕ} where
  pub making_begun : (out : List ℕ) → longest ≤ length out → Making text (length text) 0 0 1 out out
  making_begun out h = record {
    remains = refl;
    inside = omega arith;
    few = omega arith;
    lines = omega arith;
    size = h;
    put = record { moved = refl; wrote = refl };
  }

  module _ {left at end line : ℕ} {before out : List ℕ} (now : Making text left at end line before out) where
    fits : end ≤ length before
    fits = omega (arith, now.few, now.size)

    pub made_all : (r : Made) → left ≤ 0 → r ≡ ending line end → Assembles (assembled text) before out r
    unfolding made_from
    made_all r h e =
        let z : left ≡ 0 = omega arith in
        rw e (ended text end line before out fits now.put (sym now.remains ∙ rw z))

    pub made_over : (r : Made) → length text ≤ at → r ≡ ending line end → Assembles (assembled text) before out r
    made_over r h e =
        rw e (ended text end line before out fits now.put
        (sym now.remains ∙ ap (made_from left (making line (take end out))) (at_end text at h now.inside) ∙ made_end left _))

    module _ (some : 0 < left) (here : at < length text) (s : ℕ) (b : Bool) (start : drop s text ≡ skip_blanks (drop at text))
        (is : b ≡ line_over (drop s text)) where
      fuel : left ≡ suc (left - 1)
      fuel = omega arith

      lead : (m : Said) → made_from left m (drop at text) ≡ made_from (suc (left - 1)) m (drop at text)
      lead m = ap (λ (k : ℕ). made_from k m (drop at text)) fuel

      so : (t : Bool) → b ≡ t → line_over (skip_blanks (drop at text)) ≡ t
      so t e = ap line_over (sym start) ∙ sym is ∙ e

      pub blank_turn : (n : ℕ) → b ≡ true → drop n text ≡ after_line (drop s text) → n ≤ length text → Making text (left - 1) n end (line + 1) before out
      blank_turn n t e h = record {
        remains =
            rw (e ∙ ap after_line start) (sym (lead _ ∙ blank_next (left - 1) (making line (take end out)) (drop at text) (rest_full text at here) (so true t))
            ∙ now.remains);
        inside = h;
        few = now.few;
        lines = omega (arith, now.lines);
        size = now.size;
        put = now.put;
      }

      module _ (f : b ≡ false) (made : List ℕ) (front : made ≡ take end out) (p : Parsed) (bytes₀ bytes : List ℕ)
          (read : LineTo (line_read made (drop s text)) text 0 bytes₀ bytes p) (w : ℕ) (j : Judged text p end w) where
        abbrev m₀ : Said
        m₀ = making line (take end out)

        abbrev q : Read
        q = line_read (take end out) (drop s text)

        reads : LineTo q text 0 bytes₀ bytes p
        reads = rw front at read

        from : line_read (take end out) (skip_blanks (drop at text)) ≡ q
        from = ap (line_read (take end out)) (sym start)

        judged : w ≡ (taken m₀ q).reason
        judged =
            let n : end ≡ length (take end out) = now.put.moved ∙ zero-add (length (take end out)) in
            judged_so q (take end out) line w reads (rw n at j)

        pub line_wrong : (v : Made) → (w ≡ 0 → ⊥) → v ≡ record { reason = w; line = line; end = end } → Assembles (assembled text) before out v
        line_wrong v n e =
            let t : (taken m₀ q).reason ≡ 0 → ⊥ = λ z. n (judged ∙ z) in
            let whole : made_from (suc (left - 1)) m₀ (drop at text) ≡ taken m₀ q =
            line_stop (left - 1) m₀ (drop at text) (rest_full text at here) (so false f) (λ z. t (ap (λ (x : Read). (taken m₀ x).reason) (sym from) ∙ z))
            ∙ ap (taken m₀) from in
            let bad : taken m₀ q ≡ record { reason = w; line = line; bytes = take end out } = left_out m₀ q t ∙ rw (sym judged) in
            rw e (stopped text end line w before out fits now.put n (sym now.remains ∙ lead m₀ ∙ whole ∙ bad))

        module _ (z : w ≡ 0) (t : List ℕ) (is_line : t ≡ take p.end bytes) where
          fine : (taken m₀ q).reason ≡ 0
          fine = sym judged ∙ z

          bytes_said : t ≡ q.bytes
          bytes_said = is_line ∙ reads.adds (read_fine m₀ q fine)

          sized : length (take end out ++ q.bytes) ≡ end + length t
          sized = length-append (take end out) q.bytes ∙ omega (arith, now.put.moved, ap length bytes_said)

          -- there is room for it
          pub line_room_lem : end + length t ≤ length out
          line_room_lem =
              let same : length out ≡ length before = ap length now.put.wrote ∙ length-sets before 0 (take end out) in
              omega (arith, small m₀ q fine, sized, now.size, same)

          pub line_turn : (after : List ℕ) (r n : ℕ) → Put out end t after r → drop n text ≡ after_line (drop p.next text) → n ≤ length text
              → Making text (left - 1) n r (line + 1) before after
          line_turn after r n x e h =
              let all : Put before 0 (take end out ++ t) after r = then now.put x in
              let short : r ≤ longest = omega (arith, small m₀ q fine, sized, x.moved) in
              let front : take r after ≡ take end out ++ t = Made-so (omega (arith, short, now.size)) all in
              let whole : made_from (suc (left - 1)) m₀ (drop at text) ≡ made_from (left - 1) (taken m₀ q) (after_line q.rest) =
              line_next (left - 1) m₀ (drop at text) (rest_full text at here) (so false f) (ap (λ (y : Read). (taken m₀ y).reason) from ∙ fine)
              ∙ ap (λ (y : Read). made_from (left - 1) (taken m₀ y) (after_line y.rest)) from in
              let next : made_from (left - 1) (taken m₀ q) (after_line q.rest) ≡ made_from (left - 1) (making (line + 1) (take r after)) (drop n text) =
              rw (took m₀ q fine, front, bytes_said, e, reads.rest_is (read_fine m₀ q fine)) in
              record {
                remains = sym next ∙ sym (lead m₀ ∙ whole) ∙ now.remains;
                inside = h;
                few = short;
                lines = omega (arith, now.lines);
                size = now.size;
                put = rw front all;
              }

pub ruleset makes = (making_begun, made_all, made_over, blank_turn, line_turn, line_wrong, line_room_lem)
