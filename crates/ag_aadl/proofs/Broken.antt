-- The marked token at which a rule is broken first, and what each rule refuses there.
use Rattle.std.proofs.Common.{◌≡◌, ◌⊎◌, inl, inr, ℕ, Bool, true, false, List, [], ◌∷◌, ◌++◌, Result, Ok, Err, if◌then◌else◌, not, ◌==◌, ◌&&◌, codes, refl, sym, ap, ◌∙◌}
use Rattle.std.specs.List.{list_any}
use Rattle.ag_base.specs.declared.place.Refusal.{Refusal}
use Rattle.ag_base.specs.declared.place.Rule.TheVariants.{EndName, Twice, Unsupported}
use Rattle.ag_aadl.specs.declared.marked.Marked.{Marked}
use Rattle.ag_aadl.specs.declared.names.Names.{Names}
use Rattle.ag_aadl.specs.declared.rules.Context.{Context}
use Rattle.ag_aadl.specs.declared.timing.Timing.{Timing}
use Rattle.ag_aadl.specs.declared.timing.Watched.TheVariants as watched
use Rattle.ag_aadl.specs.Marked.{own}
use Rattle.ag_aadl.specs.Marks.{unmarked}
use Rattle.ag_aadl.specs.Plainly.{is_border}
use Rattle.ag_aadl.specs.Rules.{refused_at, is_misnamed, misnamed, names_after, obey_names, is_section, obey_sections, obey_timing, is_nowhere, region_of, watched_after, value_after, all_obeyed, obey, run, run_from}
use Rattle.ag_aadl.specs.Terminals.{name}
use Rattle.ag_aadl.specs.Unsupported.{delayed}
use Rattle.ag_terms.specs.Names.{same}
use Rattle.ag_aadl.proofs.Shifting.{run-append}

-- a list of marked tokens in three: those that break no rule, the one that breaks it, and the rest
pub record Broken (bytes : List ℕ) (c : Context) (ms : List Marked) (r : Refusal) : Type 0 where
  pub front : List Marked
  pub at : Marked
  pub behind : List Marked
  pub parts : ms ≡ front ++ at ∷ behind
  pub last : Context
  pub obeyed : run bytes c front ≡ Ok last
  pub broken : obey bytes last at ≡ Err r

further : (bytes : List ℕ) (c : Context) (m : Marked) (ms : List Marked) (r : Refusal) (o : Result Context Refusal) → ((d : Context) → run bytes d ms ≡ Err r → Broken bytes d ms r) → obey bytes c m ≡ o → run_from bytes o ms ≡ Err r → Broken bytes c (m ∷ ms) r
further bytes c m ms r (Err q) rest o e = record { front = []; at = m; behind = ms; parts = refl; last = c; obeyed = refl; broken = o ∙ e }
further bytes c m ms r (Ok d) rest o e =
    let f = rest d e in
    record {
      front = m ∷ f.front;
      at = f.at;
      behind = f.behind;
      parts = ap (λ q. m ∷ q) f.parts;
      last = f.last;
      obeyed = ap (λ p. run_from bytes p f.front) o ∙ f.obeyed;
      broken = f.broken;
    }

pub broken : (bytes : List ℕ) (c : Context) (ms : List Marked) (r : Refusal) → run bytes c ms ≡ Err r → Broken bytes c ms r
broken bytes c [] r e = absurd cc
broken bytes c (m ∷ ms) r e = further bytes c m ms r (obey bytes c m) (λ d q. broken bytes d ms r q) refl e

-- a rule that is broken behind some tokens is broken in a list that goes on so
pub breaks : (bytes : List ℕ) (c last : Context) (front : List Marked) (m : Marked) (behind : List Marked) (r : Refusal) → run bytes c front ≡ Ok last → obey bytes last m ≡ Err r → run bytes c (front ++ m ∷ behind) ≡ Err r
breaks bytes c last front m behind r obeyed broken =
    run-append bytes (Ok c) front (m ∷ behind) ∙ ap (λ q. run_from bytes q (m ∷ behind)) obeyed ∙ ap (λ q. run_from bytes q behind) broken

-- the front of tokens that break no rule breaks none
go-front : (bytes : List ℕ) (o : Result Context Refusal) (b : List Marked) (d : Context) → run_from bytes o b ≡ Ok d → (c : Context) × (o ≡ Ok c)
go-front bytes (Err r) b d e = absurd cc
go-front bytes (Ok c) b d e = (c, refl)

pub front-obeys : (bytes : List ℕ) (c d : Context) (a b : List Marked) → run bytes c (a ++ b) ≡ Ok d → (last : Context) × (run bytes c a ≡ Ok last)
front-obeys bytes c d a b e = go-front bytes (run bytes c a) b d (sym (run-append bytes (Ok c) a b) ∙ e)

-- where all obey each does
pub all-ok : (n : Result Names Refusal) (s : Result (List ℕ) Refusal) (t : Result Timing Refusal) (d : Context) → all_obeyed n s t ≡ Ok d → (n ≡ Ok d.names) × (s ≡ Ok d.sections) × (t ≡ Ok d.timing)
all-ok (Err r) s t d e = absurd cc
all-ok (Ok n) (Err r) t d e = absurd cc
all-ok (Ok n) (Ok s) (Err r) d e = absurd cc
all-ok (Ok n) (Ok s) (Ok t) d e =
    let f : record { names = n; sections = s; timing = t } ≡ d = cc in
    (ap (λ (q : Context). Ok q.names) f, ap (λ (q : Context). Ok q.sections) f, ap (λ (q : Context). Ok q.timing) f)

-- where one is refused one of them refuses it
pub all-err : (n : Result Names Refusal) (s : Result (List ℕ) Refusal) (t : Result Timing Refusal) (r : Refusal) → all_obeyed n s t ≡ Err r → (n ≡ Err r) ⊎ ((s ≡ Err r) ⊎ (t ≡ Err r))
all-err (Err q) s t r e = let f : q ≡ r = cc in inl (ap (λ x. Err x) f)
all-err (Ok n) (Err q) t r e = let f : q ≡ r = cc in inr (inl (ap (λ x. Err x) f))
all-err (Ok n) (Ok s) (Err q) r e = let f : q ≡ r = cc in inr (inr (ap (λ x. Err x) f))
all-err (Ok n) (Ok s) (Ok t) r e = absurd cc

-- what each says that refuses a token
name-answer : (n : Names) (r : Refusal) (b : Bool) → (if b then Err (misnamed n) else Ok n) ≡ Err r → (b ≡ true) × (r ≡ misnamed n)
name-answer n r true e = let f : r ≡ misnamed n = cc in (refl, f)
name-answer n r false e = absurd cc

pub name-said : (bytes : List ℕ) (n : Names) (m : Marked) (r : Refusal) → obey_names bytes n m ≡ Err r → (is_misnamed bytes (names_after n m) m.mark ≡ true) × (r ≡ misnamed (names_after n m))
name-said bytes n m r e = name-answer (names_after n m) r (is_misnamed bytes (names_after n m) m.mark) e

section-answer : (seen : List ℕ) (m : Marked) (r : Refusal) (section twice border : Bool) →
    (if section then (if twice then Err (refused_at Twice m.token) else Ok (seen ++ m.mark ∷ [])) else (if border then Ok [] else Ok seen)) ≡ Err r →
    (section ≡ true) × (twice ≡ true) × (r ≡ refused_at Twice m.token)
section-answer seen m r true true border e = let f : r ≡ refused_at Twice m.token = cc in (refl, refl, f)
section-answer seen m r true false border e = absurd cc
section-answer seen m r false twice true e = absurd cc
section-answer seen m r false twice false e = absurd cc

pub section-said : (seen : List ℕ) (m : Marked) (r : Refusal) → obey_sections seen m ≡ Err r → (is_section m.mark ≡ true) × (list_any (λ k. k == m.mark) seen ≡ true) × (r ≡ refused_at Twice m.token)
section-said seen m r e = section-answer seen m r (is_section m.mark) (list_any (λ k. k == m.mark) seen) (is_border m.mark) e

timing-answer : (t new fresh : Timing) (m : Marked) (r : Refusal) (plain nowhere hit : Bool) →
    (if not plain then Ok fresh else (if nowhere then Ok t else (if hit then Err (refused_at (Unsupported (record { number = delayed })) m.token) else Ok new))) ≡ Err r →
    (plain ≡ true) × (nowhere ≡ false) × (hit ≡ true) × (r ≡ refused_at (Unsupported (record { number = delayed })) m.token)
timing-answer t new fresh m r false nowhere hit e = absurd cc
timing-answer t new fresh m r true true hit e = absurd cc
timing-answer t new fresh m r true false true e = let f : r ≡ refused_at (Unsupported (record { number = delayed })) m.token = cc in (refl, refl, refl, f)
timing-answer t new fresh m r true false false e = absurd cc

pub timing-said : (bytes : List ℕ) (t : Timing) (m : Marked) (r : Refusal) → obey_timing bytes t m ≡ Err r →
    ((m.mark == unmarked) ≡ true) × (is_nowhere t.region ≡ false) × ((t.value && (m.terminal == name && same (own bytes m.token) (codes "delayed"))) ≡ true) × (r ≡ refused_at (Unsupported (record { number = delayed })) m.token)
timing-said bytes t m r e =
    timing-answer
    t
    (record { region = t.region; watched = watched_after t.watched m.terminal (own bytes m.token); value = value_after t m.terminal })
    (record { region = region_of m.mark; watched = watched.Nothing; value = false })
    m
    r
    (m.mark == unmarked)
    (is_nowhere t.region)
    (t.value && (m.terminal == name && same (own bytes m.token) (codes "delayed")))
    e

-- so each has its rule
pub name-rule : (bytes : List ℕ) (n : Names) (m : Marked) (r : Refusal) → obey_names bytes n m ≡ Err r → r.rule ≡ EndName
name-rule bytes n m r e = ap (λ (q : Refusal). q.rule) (name-said bytes n m r e).1

pub section-rule : (seen : List ℕ) (m : Marked) (r : Refusal) → obey_sections seen m ≡ Err r → r.rule ≡ Twice
section-rule seen m r e = ap (λ (q : Refusal). q.rule) (section-said seen m r e).2

pub timing-rule : (bytes : List ℕ) (t : Timing) (m : Marked) (r : Refusal) → obey_timing bytes t m ≡ Err r → r.rule ≡ Unsupported (record { number = delayed })
timing-rule bytes t m r e = ap (λ (q : Refusal). q.rule) (timing-said bytes t m r e).3
