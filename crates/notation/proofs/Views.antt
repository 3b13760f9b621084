-- Parts of a run file: its nine bytes of header, and a step at a place.
use mathlib.Core.Bool.{Bool, ◌&&◌, cond, false, true, true≢false}
use mathlib.Core.List.{List, [], ◌++◌, ◌∷◌}
use mathlib.Core.Logic.{inl, inr}
use mathlib.Core.Path.{◌∙◌, ◌≡◌, ap, refl, sym}
use Prim.Native.Nat.{◌+◌, ◌-◌, ◌<◌, ◌≤◌, suc, ℕ}
use native.Mathlib.Omega.{arith}
use lib.Dec.{eqb, leb, ltb}
use lib.ListN.{drop, get_or, length, length-drop, length-take, take}
use lib.Seq.{drop-cons, get_or-drop, get_or-take, take-add}
use borrow.Author.Tests.{eqb-true, le-leb, leb-true, lt-ltb, ltb-true}
use Rattle.base.proofs.Reflect.{and_true, by_test}
use Rattle.codec.specs.Codec.{AreBytes}
use Rattle.federation.specs.Federation.{is_known as is_known_version, is_lawful_up_to, latest}
use Rattle.runfile.specs.Run.{is_header, longest, opened, opens, opens_up_to, version_in}
use Rattle.runfile.specs.Steps.{body_size, end_of, kind_at, kind_of, next_at}
use Rattle.runfile.specs.declared.Kind.{Kind}
use Rattle.runfile.specs.declared.Kind.TheVariants.{ClientPreflight, Commit, Dependencies, Draw, Equivocating, FaultyAcknowledge, FaultySign, Generations}
use Rattle.runfile.specs.declared.Kind.TheVariants.{Preflight, Propose, Release, Show, Snapshot, Unknown}
use Rattle.notation.specs.Files.{bytes_at, is_known}
use Rattle.notation.proofs.Shapes.{Version}

-- ---- nine bytes and more
pub data Nine : List ℕ → Type 0 where
  nine : {a b c d e f g h i : ℕ} {rest : List ℕ} → Nine (a ∷ b ∷ c ∷ d ∷ e ∷ f ∷ g ∷ h ∷ i ∷ rest)

pub nine_of : (l : List ℕ) → 9 ≤ length l → Nine l
nine_of (a ∷ b ∷ c ∷ d ∷ e ∷ f ∷ g ∷ h ∷ i ∷ rest) n = nine
nine_of [] n = absurd (omega arith)
nine_of (a ∷ []) n = absurd (omega arith)
nine_of (a ∷ b ∷ []) n = absurd (omega arith)
nine_of (a ∷ b ∷ c ∷ []) n = absurd (omega arith)
nine_of (a ∷ b ∷ c ∷ d ∷ []) n = absurd (omega arith)
nine_of (a ∷ b ∷ c ∷ d ∷ e ∷ []) n = absurd (omega arith)
nine_of (a ∷ b ∷ c ∷ d ∷ e ∷ f ∷ []) n = absurd (omega arith)
nine_of (a ∷ b ∷ c ∷ d ∷ e ∷ f ∷ g ∷ []) n = absurd (omega arith)
nine_of (a ∷ b ∷ c ∷ d ∷ e ∷ f ∷ g ∷ h ∷ []) n = absurd (omega arith)

-- what an input has that check 1 lets through
pub record Opened (input : List ℕ) : Type 0 where
  pub few : length input ≤ longest
  pub header : is_header input ≡ true
  pub lawful : is_lawful_up_to latest (opened input).settings ≡ true
  pub long : 9 ≤ length input
  pub version : Version (version_in input)

version_of_lem : (v : ℕ) → is_known_version latest v ≡ true → Version v
unfolding is_known_version
version_of_lem v h =
    let a = and_true (leb 1 v) (leb v latest) h in
    by_test (eqb v 1) (λ e. inl (eqb-true v 1 e)) (λ e. inr (other (leb-true 1 v a.0) (leb-true v 2 a.1) (borrow.Author.Tests.eqb-false v 1 e)))
  where
    other : 1 ≤ v → v ≤ 2 → (v ≡ 1 → ⊥) → v ≡ 2
    other p q r = omega (arith, r)

pub opened_of : (input : List ℕ) → opens input ≡ true → Opened input
unfolding opens_up_to is_header is_lawful_up_to opened Rattle.ledger.specs.State.new_ledger
opened_of input h =
    let a = and_true (leb (length input) longest) _ h in
    let b = and_true (is_header input) _ a.1 in
    let c = and_true (leb 9 (length input)) _ b.0 in
    record {
      few = leb-true (length input) longest a.0;
      header = b.0;
      lawful = b.1;
      long = leb-true 9 (length input) c.0;
      version = version_of_lem (version_in input) (and_true (is_known_version latest (version_in input)) _ b.1).0;
    }

-- whatever follows the header
module _ (a b c d e f g h i : ℕ) where
  abbrev pub headed : List ℕ → List ℕ
  headed x = a ∷ b ∷ c ∷ d ∷ e ∷ f ∷ g ∷ h ∷ i ∷ x

  letters_are : (x : List ℕ) → is_header (headed x) ≡ true → (eqb a 86 && (eqb b 76 && eqb c 84)) ≡ true
  unfolding is_header
  letters_are x t = (and_true (leb 9 (length (headed x))) _ t).1

  header_more : (y : List ℕ) → (eqb a 86 && (eqb b 76 && eqb c 84)) ≡ true → is_header (headed y) ≡ true
  unfolding is_header
  header_more y t = rw (le-leb 9 (length (headed y)) (omega arith), t)

  pub opens_same : (x y : List ℕ) → length (headed y) ≤ longest → opens (headed x) ≡ true → opens (headed y) ≡ true
  unfolding opens_up_to opened
  opens_same x y l t =
      let o = opened_of (headed x) t in
      rw (le-leb (length (headed y)) longest l, header_more y (letters_are x o.header), o.lawful)

  -- a header that check 1 lets through
  pub first_three : (x : List ℕ) → opens (headed x) ≡ true → (a ≡ 86) × (b ≡ 76) × (c ≡ 84)
  first_three x t =
      let o = letters_are x (opened_of (headed x) t).header in
      let p = and_true (eqb a 86) _ o in
      let q = and_true (eqb b 76) _ p.1 in
      (eqb-true a 86 p.0, eqb-true b 76 q.0, eqb-true c 84 q.1)

-- ---- a step at a place
end_known : (version : ℕ) (k : Kind) (pos size : ℕ) → is_known k ≡ true → end_of version k pos size ≡ pos + body_size version k + 1
end_known version Propose pos size h = refl
end_known version Preflight pos size h = refl
end_known version Commit pos size h = refl
end_known version FaultySign pos size h = refl
end_known version FaultyAcknowledge pos size h = refl
end_known version Show pos size h = refl
end_known version Draw pos size h = refl
end_known version Generations pos size h = refl
end_known version Snapshot pos size h = refl
end_known version Release pos size h = refl
end_known version Dependencies pos size h = refl
end_known version ClientPreflight pos size h = refl
end_known version Equivocating pos size h = refl
end_known version Unknown pos size h = absurd (true≢false (sym h))

pub record Known (version : ℕ) (input : List ℕ) (pos : ℕ) : Type 0 where
  pub known : is_known (kind_of (get_or input pos 0)) ≡ true
  pub inside : pos + body_size version (kind_of (get_or input pos 0)) < length input
  pub next : next_at version input pos ≡ pos + body_size version (kind_of (get_or input pos 0)) + 1

kept : (t : Bool) (k : Kind) → is_known (cond t k Unknown) ≡ true → (t ≡ true) × (is_known k ≡ true)
kept true k h = (refl, h)
kept false k h = absurd (true≢false (sym h))

pub known_at : (version : ℕ) (input : List ℕ) (pos : ℕ) → is_known (kind_at version input pos) ≡ true → Known version input pos
unfolding kind_at
known_at version input pos h =
    let k = kind_of (get_or input pos 0) in
    let t = ltb (pos + body_size version k) (length input) in
    let a = kept t k h in
    record {
      known = a.1;
      inside = ltb-true _ _ a.0;
      next = ap (λ (x : Bool). end_of version (cond x k Unknown) pos (length input)) a.0 ∙ end_known version k pos (length input) a.1;
    }

pub at_known : (version : ℕ) (input : List ℕ) (pos : ℕ) → is_known (kind_of (get_or input pos 0)) ≡ true
    → pos + body_size version (kind_of (get_or input pos 0)) < length input → kind_at version input pos ≡ kind_of (get_or input pos 0)
unfolding kind_at
at_known version input pos h l = simp (lt-ltb _ (length input) l)

module _ (version : ℕ) (input : List ℕ) (pos : ℕ) (here : pos < length input) (k : Known version input pos) where
  -- its kind, and its body
  pub bytes_are : bytes_at version input pos ≡ get_or input pos 0 ∷ take (body_size version (kind_of (get_or input pos 0))) (drop (suc pos) input)
  bytes_are =
      let z = body_size version (kind_of (get_or input pos 0)) in
      let n : next_at version input pos - pos ≡ suc z = omega (arith, k.next) in
      ap (λ (m : ℕ). take m (drop pos input)) n ∙ ap (take (suc z)) (drop-cons input pos 0 here)

  pub bytes_size : length (bytes_at version input pos) ≡ suc (body_size version (kind_of (get_or input pos 0)))
  bytes_size = rw bytes_are (ap suc (rw (length-take, length-drop) (omega (arith, k.inside))))

  pub bytes_bytes : AreBytes input → AreBytes (bytes_at version input pos)
  bytes_bytes b i =
      by_test (ltb i (next_at version input pos - pos))
      (λ e. let l = ltb-true i _ e in rw (get_or-take, get_or-drop) (b (pos + i)))
      (λ e. omega (arith, past e))
    where
      past : ltb i (next_at version input pos - pos) ≡ false → get_or (bytes_at version input pos) i 0 ≡ 0
      past e = lib.ListN.get_or-eq_default (bytes_at version input pos) 0 {n = i}
          (omega (arith, borrow.Author.Tests.ltb-false i _ e, bytes_size, k.next))

  pub taken_to : take pos input ++ bytes_at version input pos ≡ take (next_at version input pos) input
  taken_to =
      let e : next_at version input pos ≡ pos + (next_at version input pos - pos) = omega (arith, k.next) in
      sym (ap (λ (m : ℕ). take m input) e ∙ take-add pos (next_at version input pos - pos) input)
