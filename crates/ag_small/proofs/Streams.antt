-- The streams that names have, and what is assigned before what.
use Rattle.std.proofs.Common.{◌≡◌, ℕ, zero, suc, ◌<◌, Bool, true, false, not, ◌&&◌, ◌||◌, List, [], ◌∷◌, ◌++◌, length, get_or, take, refl, sym, subst, ◌∙◌, append_assoc, inl, inr, arith}
use Rattle.std.specs.List.{list_any}
use Rattle.std.proofs.lemmas.Bool.{cases_Bool, and_parts, or_cases, or_left, or_right, not-true, both_ways}
use Rattle.std.proofs.lemmas.List.{append-nil}
use Rattle.ag_small.specs.declared.package.Port.{Port}
use Rattle.ag_small.specs.declared.package.Assign.{Assign}
use Rattle.ag_small.specs.Characters.{same}
use Rattle.ag_small.specs.Rules.{names_port, names_input, names_output, ports_differ, all_names, is_assigned, may_follow, all_follow}
use Rattle.ag_small.specs.Numbered.{stream_of}
use Rattle.ag_small.proofs.Terminals.{same_is, is_same}

pub same_too : (a b c : List ℕ) → same a b ≡ true → same b c ≡ true → same a c ≡ true
same_too a b c ab bc = is_same a c (same_is a b ab ∙ same_is b c bc)

pub same_back : (a b : List ℕ) → same a b ≡ true → same b a ≡ true
same_back a b ab = is_same b a (sym (same_is a b ab))

-- some element passes
pub any_at : {A : Type 0} (p : A → Bool) (xs : List A) → list_any p xs ≡ true → (j : ℕ) × (j < length xs) × ((d : A) → p (get_or xs j d) ≡ true)
any_at p [] h = absurd cc
any_at p (x ∷ xs) h =
    elim (or_cases (p x) (list_any p xs) h) [
      | inl here ↦ (0, omega arith, λ d. here)
      | inr later ↦ let k = any_at p xs later in (suc k.0, omega (arith, k.1), k.2)
    ]

pub at_any : {A : Type 0} (p : A → Bool) (xs : List A) (j : ℕ) (d : A) → j < length xs → p (get_or xs j d) ≡ true → list_any p xs ≡ true
at_any p [] j d lt h = absurd (omega arith)
at_any p (x ∷ xs) zero d lt h = or_left (p x) (list_any p xs) h
at_any p (x ∷ xs) (suc j) d lt h = or_right (p x) (list_any p xs) (at_any p xs j d (omega arith) h)

-- a test that follows from another
pub any_weaker : {A : Type 0} (p q : A → Bool) → ((x : A) → p x ≡ true → q x ≡ true) → (xs : List A) → list_any p xs ≡ true → list_any q xs ≡ true
any_weaker p q w [] h = h
any_weaker p q w (x ∷ xs) h =
    elim (or_cases (p x) (list_any p xs) h) [
      | inl here ↦ or_left (q x) (list_any q xs) (w x here)
      | inr later ↦ or_right (q x) (list_any q xs) (any_weaker p q w xs later)
    ]

pub port_from_same : (ports : List Port) (n m : List ℕ) → same n m ≡ true → names_port ports m ≡ true → names_port ports n ≡ true
port_from_same ports n m h = any_weaker (λ q. same m q.name) (λ q. same n q.name) (λ q e. same_too n m q.name h e) ports

pub port_from_input : (ports : List Port) (n : List ℕ) → names_input ports n ≡ true → names_port ports n ≡ true
port_from_input ports n = any_weaker (λ q. not q.outward && same n q.name) (λ q. same n q.name) (λ q e. (and_parts (not q.outward) (same n q.name) e).1) ports

pub port_from_output : (ports : List Port) (n : List ℕ) → names_output ports n ≡ true → names_port ports n ≡ true
port_from_output ports n = any_weaker (λ q. q.outward && same n q.name) (λ q. same n q.name) (λ q e. (and_parts q.outward (same n q.name) e).1) ports

-- ---- the stream of a name

stream_here : (q : Port) (qs : List Port) (n : List ℕ) → same n q.name ≡ true → stream_of (q ∷ qs) n ≡ 0
stream_here q qs n h = rw h refl

pub stream_later : (q : Port) (qs : List Port) (n : List ℕ) → same n q.name ≡ false → stream_of (q ∷ qs) n ≡ suc (stream_of qs n)
stream_later q qs n h = rw h (omega arith)

-- a port's name has a stream, whose port has that name
pub stream_below : (ports : List Port) (n : List ℕ) → names_port ports n ≡ true → stream_of ports n < length ports
stream_below [] n h = absurd cc
stream_below (q ∷ qs) n h =
    elim (cases_Bool (same n q.name)) [
      | inl here ↦ rw (stream_here q qs n here) (omega arith)
      | inr other ↦
          let later : names_port qs n ≡ true = elim (or_cases (same n q.name) (names_port qs n) h) [ inl now ↦ absurd (both_ways (same n q.name) other now) | inr rest ↦ rest ] in
          rw (stream_later q qs n other) (omega (arith, stream_below qs n later))
    ]

pub port_named : (ports : List Port) (n : List ℕ) (d : Port) → names_port ports n ≡ true → same n (get_or ports (stream_of ports n) d).name ≡ true
port_named [] n d h = absurd cc
port_named (q ∷ qs) n d h =
    elim (cases_Bool (same n q.name)) [
      | inl here ↦ rw (stream_here q qs n here) here
      | inr other ↦
          let later : names_port qs n ≡ true = elim (or_cases (same n q.name) (names_port qs n) h) [ inl now ↦ absurd (both_ways (same n q.name) other now) | inr rest ↦ rest ] in
          rw (stream_later q qs n other) (port_named qs n d later)
    ]

some_port : Port
some_port = record { name = []; outward = false }

-- names of one stream are the same
pub same_from_stream : (ports : List Port) (n m : List ℕ) → names_port ports n ≡ true → names_port ports m ≡ true → stream_of ports n ≡ stream_of ports m → same n m ≡ true
same_from_stream ports n m pn pm e =
    same_too n (get_or ports (stream_of ports n) some_port).name m (port_named ports n some_port pn)
    (rw e (same_back m (get_or ports (stream_of ports m) some_port).name (port_named ports m some_port pm)))

-- a test of the port that is named
pub port_tested : (test : Port → Bool) (ports : List Port) (n : List ℕ) (d : Port) → ports_differ ports ≡ true → list_any (λ q. test q && same n q.name) ports ≡ true
    → test (get_or ports (stream_of ports n) d) ≡ true
port_tested test [] n d differ h = absurd cc
port_tested test (q ∷ qs) n d differ h =
    let parts = and_parts (not (names_port qs q.name)) (ports_differ qs) differ in
    let alone = not-true (names_port qs q.name) parts.0 in
    elim (cases_Bool (same n q.name)) [
      | inl here ↦
          rw (stream_here q qs n here)
          (elim (or_cases (test q && same n q.name) (list_any (λ r. test r && same n r.name) qs) h) [
            | inl now ↦ (and_parts (test q) (same n q.name) now).0
            | inr rest ↦
                let there = any_weaker (λ r. test r && same n r.name) (λ r. same q.name r.name) (λ r e. same_too q.name n r.name (same_back n q.name here) (and_parts (test r) (same n r.name) e).1) qs rest in
                absurd (both_ways (names_port qs q.name) alone there)
          ])
      | inr other ↦
          rw (stream_later q qs n other)
          (elim (or_cases (test q && same n q.name) (list_any (λ r. test r && same n r.name) qs) h) [
            | inl now ↦ absurd (both_ways (same n q.name) other (and_parts (test q) (same n q.name) now).1)
            | inr rest ↦ port_tested test qs n d parts.1 rest
          ])
    ]

-- no output is an input
pub input_apart : (ports : List Port) (n m : List ℕ) → ports_differ ports ≡ true → names_input ports n ≡ true → names_output ports m ≡ true → stream_of ports n ≡ stream_of ports m → ⊥
input_apart ports n m differ input output e =
    let into = port_tested (λ q. not q.outward) ports n some_port differ input in
    let out : (get_or ports (stream_of ports n) some_port).outward ≡ true = rw e (port_tested (λ q. q.outward) ports m some_port differ output) in
    both_ways (get_or ports (stream_of ports n) some_port).outward (not-true _ into) out

-- ---- the assigns

-- an assign may stand behind these
pub record Fits (ports : List Port) (earlier : List Assign) (a : Assign) : Type 0 where
  pub output : names_output ports a.name ≡ true
  pub fresh : is_assigned earlier a.name ≡ false
  pub value : all_names (λ n. names_input ports n || is_assigned earlier n) a.value ≡ true

fits_from : (ports : List Port) (earlier : List Assign) (a : Assign) → may_follow ports earlier a ≡ true → Fits ports earlier a
fits_from ports earlier a h =
    let p = and_parts (names_output ports a.name && not (is_assigned earlier a.name)) (all_names (λ n. names_input ports n || is_assigned earlier n) a.value) h in
    let q = and_parts (names_output ports a.name) (not (is_assigned earlier a.name)) p.0 in
    record { output = q.0; fresh = not-true (is_assigned earlier a.name) q.1; value = p.1 }

pub fits_at : (ports : List Port) (earlier later : List Assign) → all_follow ports earlier later ≡ true → (k : ℕ) (d : Assign) → k < length later → Fits ports (earlier ++ take k later) (get_or later k d)
fits_at ports earlier [] h k d lt = absurd (omega arith)
fits_at ports earlier (a ∷ later) h zero d lt =
    let p = and_parts (may_follow ports earlier a) (all_follow ports (earlier ++ a ∷ []) later) h in
    subst (λ (e : List Assign). Fits ports e a) (sym (append-nil earlier)) (fits_from ports earlier a p.0)
fits_at ports earlier (a ∷ later) h (suc k) d lt =
    let p = and_parts (may_follow ports earlier a) (all_follow ports (earlier ++ a ∷ []) later) h in
    subst (λ (e : List Assign). Fits ports e (get_or later k d)) (append_assoc earlier (a ∷ []) (take k later)) (fits_at ports (earlier ++ a ∷ []) later p.1 k d (omega arith))
