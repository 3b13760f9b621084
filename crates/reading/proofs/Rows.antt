-- A step as it is read is the step that stands there.
use mathlib.Core.List.{List}
use mathlib.Core.Path.{◌∙◌, ◌≡◌, ap, refl, subst, sym}
use Prim.Native.Nat.{◌+◌, ◌<◌, ◌≤◌, ℕ}
use native.Mathlib.Omega.{arith}
use lib.ListN.{get_or, length}
use borrow.Author.Tests.{le-ltb, lt-ltb}
use Rattle.runfile.specs.Run.{longest}
use Rattle.runfile.specs.Steps.{body_size, command_in, end_of, kind_at, kind_of}
use Rattle.runfile.specs.declared.Kind.{Kind}
use Rattle.runfile.specs.declared.Kind.TheVariants.{ClientPreflight, Commit, Dependencies, Draw, Equivocating, FaultyAcknowledge, FaultySign, Generations}
use Rattle.runfile.specs.declared.Kind.TheVariants.{Preflight, Propose, Release, Show, Snapshot, Unknown}
use Rattle.kind_table.specs.Table.{form_of, is_wide, operation_of, row_of}
use Rattle.kind_table.specs.declared.Operation.{Operation}
use Rattle.reading.specs.Reading.{Read, formed, history_of, job_of, unread, vault_of}
use Rattle.reading.specs.declared.Step.{Step}

-- ---- the step of a kind
module _ (version : ℕ) (input : List ℕ) (pos number : ℕ) where
  -- the step of a kind, by the form of its body
  abbrev named : Kind → Step
  named k = formed (form_of k) (row_of version k) input number (pos + 1) (pos + 1 + body_size version k)

  -- what it names, and where it ends
  record Row (k : Kind) : Type 0 where
    number_is : (named k).number ≡ number
    kind : (named k).kind ≡ k
    wide : (named k).wide ≡ is_wide k
    at : (named k).at ≡ pos + 1
    vault : (named k).vault ≡ vault_of (command_in version k input (pos + 1))
    job : (named k).job ≡ job_of (command_in version k input (pos + 1))
    place : (named k).place ≡ history_of (command_in version k input (pos + 1))
    end : (named k).end ≡ end_of version k pos (length input)
    onward : pos + body_size version k < length input → pos < end_of version k pos (length input)
    inside : pos + body_size version k < length input → end_of version k pos (length input) ≤ length input

  row : (k : Kind) → Row k
  row Propose = search arith
  row Preflight = search arith
  row Commit = search arith
  row FaultySign = search arith
  row FaultyAcknowledge = search arith
  row Show = search arith
  row Draw = search arith
  row Generations = search arith
  row Snapshot = search arith
  row Release = search arith
  row Dependencies = search arith
  row ClientPreflight = search arith
  row Equivocating = search arith
  row Unknown = search arith

  -- a step of a kind whose body is all there
  whole : (k : Kind) → length input ≤ longest → kind_at version input pos ≡ k → pos + body_size version k < length input → Read version input pos number (named k)
  whole k few e h =
      let r = row k in
      record {
        number_is = r.number_is;
        kind_is = r.kind ∙ sym e;
        wide_is = r.wide ∙ ap is_wide (sym r.kind);
        at_is = r.at;
        asked = record {
          few = omega (arith, r.at);
          vault_is = rw (r.kind, r.at) r.vault;
          job_is = rw (r.kind, r.at) r.job;
          place_is = rw (r.kind, r.at) r.place;
          whole = λ p. omega (arith, r.at, ap (body_size version) (sym r.kind ∙ p));
        };
        end_is = r.end ∙ ap (λ (x : Kind). end_of version x pos (length input)) (sym e);
        onward = omega (arith, r.end, r.onward h);
        inside = omega (arith, r.end, r.inside h);
      }

  -- nothing that can be read
  cut : length input ≤ longest → kind_at version input pos ≡ Unknown → pos < length input → Read version input pos number (unread input number (pos + 1))
  cut few u h = record {
    number_is = refl;
    kind_is = sym u;
    wide_is = refl;
    at_is = refl;
    asked = record { few = omega arith; vault_is = refl; job_is = refl; place_is = refl; whole = λ p. omega (arith, ap (body_size version) p) };
    end_is = simp u;
    onward = h;
    inside = omega arith;
  }

-- ---- what was read
module _ (version : ℕ) (input : List ℕ) (pos number : ℕ) (o : Operation) (s : Step) where
  pub read_whole : length input ≤ longest → o ≡ operation_of version (get_or input pos 0) → pos + 1 + o.size ≤ length input
      → s ≡ formed o.form o input number (pos + 1) (pos + 1 + o.size) → Read version input pos number s
  unfolding operation_of kind_at
  read_whole few e h q =
      let k = kind_of (get_or input pos 0) in
      let g : pos + body_size version k < length input = omega (arith, ap (λ (x : Operation). x.size) e) in
      subst (Read version input pos number) (sym (q ∙ ap (λ (x : Operation). formed x.form x input number (pos + 1) (pos + 1 + x.size)) e))
      (whole version input pos number k few (simp (lt-ltb (pos + body_size version k) (length input) g)) g)

  pub read_cut : length input ≤ longest → pos < length input → o ≡ operation_of version (get_or input pos 0) → length input < pos + 1 + o.size
      → s ≡ unread input number (pos + 1) → Read version input pos number s
  unfolding operation_of kind_at
  read_cut few i e h q =
      let k = kind_of (get_or input pos 0) in
      let g : length input ≤ pos + body_size version k = omega (arith, ap (λ (x : Operation). x.size) e) in
      subst (Read version input pos number) (sym q) (cut version input pos number few (simp (le-ltb (pos + body_size version k) (length input) g)) i)

pub ruleset rows = (read_whole, read_cut)
