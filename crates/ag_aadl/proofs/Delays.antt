-- The rule on timings, by what stands where.
use Rattle.std.proofs.Common.{◌≡◌, ◌⊎◌, inl, inr, ℕ, Bool, true, false, not, ◌==◌, ◌&&◌, ◌||◌, List, [], ◌∷◌, ◌++◌, Result, Ok, Err, codes, length, map, if◌then◌else◌, refl, sym, ap, subst, ◌∙◌, append_assoc}
use Rattle.std.specs.Char.{to_ascii_lowercase}
use Rattle.std.proofs.lemmas.Bool.{both_ways, or_cases, or_left, or_right, or_parts, or_from, and_parts, and_from, not_from_false, not_from_true, eqb-true, eqb-false, eq-eqb, not-true, not-false, false_from_ne_true}
use Rattle.std.proofs.lemmas.List.{append-nil}
use Rattle.std.proofs.lemmas.List.Folds.{list_any-append}
use Rattle.std.proofs.lemmas.Slice.Eq.{bytes_eq-Decides}
use Rattle.ag_base.specs.declared.place.Refusal.{Refusal}
use Rattle.ag_base.specs.declared.place.Rule.TheVariants.{EndName, Twice, Unsupported}
use Rattle.ag_aadl.specs.declared.marked.Marked.{Marked}
use Rattle.ag_aadl.specs.declared.rules.Context.{Context}
use Rattle.ag_aadl.specs.declared.timing.Region.TheVariants as region
use Rattle.ag_aadl.specs.declared.timing.Timing.{Timing}
use Rattle.ag_aadl.specs.declared.timing.Watched.{Watched}
use Rattle.ag_aadl.specs.declared.timing.Watched.TheVariants as watched
use Rattle.ag_aadl.specs.Marked.{own}
use Rattle.ag_aadl.specs.Marks.{unmarked}
use Rattle.ag_aadl.specs.Plainly.{is_word, ends_in, has_marked, has_name, is_spot, IsForeign, IsTimed, IsDelayed, IsFirstDelayed}
use Rattle.ag_aadl.specs.Rules.{refused_at, region_of, is_connection, is_nowhere, is_elsewhere, is_set_name, is_timing, watched_after, value_after, timing_inside, obey_timing, is_misnamed, misnamed, names_after, obey_names, obey_sections, all_obeyed, obey, run, run_from, start, Obeys}
use Rattle.ag_aadl.specs.Terminals.{name, colons, gives}
use Rattle.ag_aadl.specs.Unsupported.{delayed}
use Rattle.ag_terms.specs.Names.{same}
use Rattle.ag_aadl.proofs.Broken.{broken, breaks, front-obeys, all-ok, all-err, timing-said, name-rule, section-rule}

-- what is known of a timing behind a token, and behind some
abbrev inside : List ℕ → Timing → Marked → Timing
inside bytes t m = record { region = t.region; watched = watched_after t.watched m.terminal (own bytes m.token); value = value_after t m.terminal }

abbrev fresh : ℕ → Timing
fresh mark = record { region = region_of mark; watched = watched.Nothing; value = false }

abbrev next : List ℕ → Timing → Marked → Timing
next bytes t m = if not (m.mark == unmarked) then fresh m.mark else (if is_nowhere t.region then t else inside bytes t m)

abbrev over : List ℕ → Timing → List Marked → Timing
over bytes t [] = t
over bytes t (m ∷ ms) = over bytes (next bytes t m) ms

over-append : (bytes : List ℕ) (t : Timing) (a b : List Marked) → over bytes t (a ++ b) ≡ over bytes (over bytes t a) b
over-append bytes t [] b = refl
over-append bytes t (m ∷ a) b = over-append bytes (next bytes t m) a b

known : (t new first answer : Timing) (q : Refusal) (marked nowhere hit : Bool) → (if marked then Ok first else (if nowhere then Ok t else (if hit then Err q else Ok new))) ≡ Ok answer → answer ≡ (if marked then first else (if nowhere then t else new))
known t new first answer q true nowhere hit e = let f : answer ≡ first = cc in f
known t new first answer q false true hit e = let f : answer ≡ t = cc in f
known t new first answer q false false true e = absurd cc
known t new first answer q false false false e = let f : answer ≡ new = cc in f

further : (bytes : List ℕ) (c d : Context) (m : Marked) (ms : List Marked) (o : Result Context Refusal) → ((e : Context) → run bytes e ms ≡ Ok d → d.timing ≡ over bytes e.timing ms) → obey bytes c m ≡ o → run_from bytes o ms ≡ Ok d → d.timing ≡ over bytes c.timing (m ∷ ms)
further bytes c d m ms (Err r) rest o e = absurd cc
further bytes c d m ms (Ok new) rest o e =
    let t : obey_timing bytes c.timing m ≡ Ok new.timing = (all-ok (obey_names bytes c.names m) (obey_sections c.sections m) (obey_timing bytes c.timing m) new o).2 in
    rest new e
    ∙ ap (λ q. over bytes q ms)
    (known
    c.timing
    (inside bytes c.timing m)
    (fresh m.mark)
    new.timing
    (refused_at (Unsupported (record { number = delayed })) m.token)
    (not (m.mark == unmarked))
    (is_nowhere c.timing.region)
    (c.timing.value && (m.terminal == name && same (own bytes m.token) (codes "delayed")))
    t)

timing-behind : (bytes : List ℕ) (c d : Context) (ms : List Marked) → run bytes c ms ≡ Ok d → d.timing ≡ over bytes c.timing ms
timing-behind bytes c d [] e = let f : c ≡ d = cc in ap (λ (q : Context). q.timing) (sym f)
timing-behind bytes c d (m ∷ ms) e = further bytes c d m ms (obey bytes c m) (λ n q. timing-behind bytes n d ms q) refl e

-- behind the last marked token
record Stretch (bytes : List ℕ) (t : Timing) (ms : List Marked) : Type 0 where
  before : List Marked
  opening : Marked
  rest : List Marked
  parts : ms ≡ before ++ opening ∷ rest
  marked : (opening.mark == unmarked) ≡ false
  plain : has_marked rest ≡ false
  behind : over bytes t ms ≡ over bytes (fresh opening.mark) rest

stretch-here : (bytes : List ℕ) (t : Timing) (m : Marked) (ms : List Marked) (b : Bool) → (m.mark == unmarked) ≡ b → has_marked ms ≡ false → (has_marked (m ∷ ms) ≡ false) ⊎ Stretch bytes t (m ∷ ms)
stretch-here bytes t m ms true is none = inl (or_from (not (m.mark == unmarked)) (has_marked ms) (ap not is) none)
stretch-here bytes t m ms false is none =
    inr (record {
      before = [];
      opening = m;
      rest = ms;
      parts = refl;
      marked = is;
      plain = none;
      behind = ap (λ (b : Bool). over bytes (if not b then fresh m.mark else (if is_nowhere t.region then t else inside bytes t m)) ms) is;
    })

stretch : (bytes : List ℕ) (t : Timing) (ms : List Marked) → (has_marked ms ≡ false) ⊎ Stretch bytes t ms
stretch bytes t [] = inl refl
stretch bytes t (m ∷ ms) =
    elim (stretch bytes (next bytes t m) ms) [
      | inl none ↦ stretch-here bytes t m ms (m.mark == unmarked) refl none
      | inr s ↦ inr (record { before = m ∷ s.before; opening = s.opening; rest = s.rest; parts = ap (λ q. m ∷ q) s.parts; marked = s.marked; plain = s.plain; behind = s.behind })
    ]

plain-head : (m : Marked) (ms : List Marked) → has_marked (m ∷ ms) ≡ false → ((m.mark == unmarked) ≡ true) × (has_marked ms ≡ false)
plain-head m ms e = let p = or_parts (not (m.mark == unmarked)) (has_marked ms) e in (not-false (m.mark == unmarked) p.0, p.1)

-- nowhere nothing is looked for
stays : (bytes : List ℕ) (t : Timing) (ms : List Marked) → is_nowhere t.region ≡ true → has_marked ms ≡ false → over bytes t ms ≡ t
stays bytes t [] nowhere plain = refl
stays bytes t (m ∷ ms) nowhere plain =
    let p = plain-head m ms plain in
    ap (λ (b : Bool). over bytes (if not b then fresh m.mark else (if is_nowhere t.region then t else inside bytes t m)) ms) p.0
    ∙ ap (λ (b : Bool). over bytes (if b then t else inside bytes t m) ms) nowhere
    ∙ stays bytes t ms nowhere p.1

-- elsewhere what was seen and whether the value comes next go by the tokens
abbrev seen : List ℕ → Watched → List Marked → Watched
seen bytes w [] = w
seen bytes w (m ∷ ms) = seen bytes (watched_after w m.terminal (own bytes m.token)) ms

abbrev comes : List ℕ → Bool → Watched → Bool → List Marked → Bool
comes bytes connection w v [] = v
comes bytes connection w v (m ∷ ms) = comes bytes connection (watched_after w m.terminal (own bytes m.token)) ((m.terminal == gives && is_timing w) || (v && (connection && not (m.terminal == name)))) ms

inside-over : (bytes : List ℕ) (t : Timing) (ms : List Marked) → is_nowhere t.region ≡ false → has_marked ms ≡ false →
    over bytes t ms ≡ record { region = t.region; watched = seen bytes t.watched ms; value = comes bytes (is_connection t.region) t.watched t.value ms }
inside-over bytes t [] somewhere plain = refl
inside-over bytes t (m ∷ ms) somewhere plain =
    let p = plain-head m ms plain in
    ap (λ (b : Bool). over bytes (if not b then fresh m.mark else (if is_nowhere t.region then t else inside bytes t m)) ms) p.0
    ∙ ap (λ (b : Bool). over bytes (if b then t else inside bytes t m) ms) somewhere
    ∙ inside-over bytes (inside bytes t m) ms somewhere p.1

seen-append : (bytes : List ℕ) (w : Watched) (a b : List Marked) → seen bytes w (a ++ b) ≡ seen bytes (seen bytes w a) b
seen-append bytes w [] b = refl
seen-append bytes w (m ∷ a) b = seen-append bytes (watched_after w m.terminal (own bytes m.token)) a b

comes-append : (bytes : List ℕ) (n : Bool) (w : Watched) (v : Bool) (a b : List Marked) → comes bytes n w v (a ++ b) ≡ comes bytes n (seen bytes w a) (comes bytes n w v a) b
comes-append bytes n w v [] b = refl
comes-append bytes n w v (m ∷ a) b = comes-append bytes n (watched_after w m.terminal (own bytes m.token)) ((m.terminal == gives && is_timing w) || (v && (n && not (m.terminal == name)))) a b

-- a list is empty or has a last token
ends : (ms : List Marked) → (ms ≡ []) ⊎ ((front : List Marked) × (m : Marked) × (ms ≡ front ++ m ∷ []))
ends [] = inl refl
ends (m ∷ ms) = elim (ends ms) [
  | inl e ↦ inr ([], m, ap (λ q. m ∷ q) e)
  | inr r ↦ inr (m ∷ r.0, r.1, ap (λ q. m ∷ q) r.2)
]

ends-push : (test : Marked → Bool) (ms : List Marked) (m : Marked) → ends_in test (ms ++ m ∷ []) ≡ test m
ends-push test [] m = refl
ends-push test (k ∷ []) m = refl
ends-push test (k ∷ j ∷ ms) m = ends-push test (j ∷ ms) m

-- no text is both words
words-apart : (text : List ℕ) → same text (codes "Timing") ≡ true → same text (codes "Communication_Properties") ≡ true → ⊥
unfolding same
words-apart text a b =
    let x = (bytes_eq-Decides (map to_ascii_lowercase text) (map to_ascii_lowercase (codes "Timing"))).0 a in
    let y = (bytes_eq-Decides (map to_ascii_lowercase text) (map to_ascii_lowercase (codes "Communication_Properties"))).0 b in
    eqb-false 6 24 refl (ap length (sym x ∙ y))

-- what was seen last
set-next : (is timing set join elsewhere old : Bool) → (timing ≡ true → set ≡ true → ⊥) →
    is_set_name (if is then (if timing then (if elsewhere then watched.Nothing else watched.Timing) else (if set then watched.SetName else watched.Nothing)) else (if join then (if old then watched.InSet else watched.Elsewhere) else watched.Nothing)) ≡ (is && set)
set-next true true true join elsewhere old apart = absurd (apart refl refl)
set-next true true false join true old apart = refl
set-next true true false join false old apart = refl
set-next true false true join elsewhere old apart = refl
set-next true false false join elsewhere old apart = refl
set-next false timing set true elsewhere true apart = refl
set-next false timing set true elsewhere false apart = refl
set-next false timing set false elsewhere old apart = refl

elsewhere-next : (is timing set join elsewhere old : Bool) → (is ≡ true → join ≡ false) →
    is_elsewhere (if is then (if timing then (if elsewhere then watched.Nothing else watched.Timing) else (if set then watched.SetName else watched.Nothing)) else (if join then (if old then watched.InSet else watched.Elsewhere) else watched.Nothing)) ≡ (join && not old)
elsewhere-next true timing set true elsewhere old apart = absurd (both_ways true (apart refl) refl)
elsewhere-next true true set false true old apart = refl
elsewhere-next true true set false false old apart = refl
elsewhere-next true false true false elsewhere old apart = refl
elsewhere-next true false false false elsewhere old apart = refl
elsewhere-next false timing set true elsewhere true apart = refl
elsewhere-next false timing set true elsewhere false apart = refl
elsewhere-next false timing set false elsewhere old apart = refl

timing-next : (is timing set join elsewhere old : Bool) →
    is_timing (if is then (if timing then (if elsewhere then watched.Nothing else watched.Timing) else (if set then watched.SetName else watched.Nothing)) else (if join then (if old then watched.InSet else watched.Elsewhere) else watched.Nothing)) ≡ ((is && timing) && not elsewhere)
timing-next true true set join true old = refl
timing-next true true set join false old = refl
timing-next true false true join elsewhere old = refl
timing-next true false false join elsewhere old = refl
timing-next false timing set true elsewhere true = refl
timing-next false timing set true elsewhere false = refl
timing-next false timing set false elsewhere old = refl

is-timing : (bytes : List ℕ) (w : Watched) (m : Marked) → is_timing (watched_after w m.terminal (own bytes m.token)) ≡ (is_word bytes (codes "Timing") m && not (is_elsewhere w))
is-timing bytes w m =
    let text = own bytes m.token in
    timing-next (m.terminal == name) (same text (codes "Timing")) (same text (codes "Communication_Properties")) (m.terminal == colons) (is_elsewhere w) (is_set_name w)

set-is : (bytes : List ℕ) (ms : List Marked) → is_set_name (seen bytes watched.Nothing ms) ≡ ends_in (is_word bytes (codes "Communication_Properties")) ms
set-is bytes ms =
    elim (ends ms) [
      | inl e ↦ ap (λ q. is_set_name (seen bytes watched.Nothing q)) e ∙ sym (ap (ends_in (is_word bytes (codes "Communication_Properties"))) e)
      | inr r ↦
          let m = r.1 in
          let w = seen bytes watched.Nothing r.0 in
          let text = own bytes m.token in
          ap (λ q. is_set_name (seen bytes watched.Nothing q)) r.2
          ∙ ap is_set_name (seen-append bytes watched.Nothing r.0 (m ∷ []))
          ∙ set-next (m.terminal == name) (same text (codes "Timing")) (same text (codes "Communication_Properties")) (m.terminal == colons) (is_elsewhere w) (is_set_name w) (words-apart text)
          ∙ sym (ap (ends_in (is_word bytes (codes "Communication_Properties"))) r.2 ∙ ends-push (is_word bytes (codes "Communication_Properties")) r.0 m)
    ]

name-apart : (k : ℕ) → (k == name) ≡ true → (k == colons) ≡ false
name-apart k e = subst (λ j. (j == colons) ≡ false) (sym (eqb-true k name e)) refl

elsewhere-push : (bytes : List ℕ) (ms : List Marked) (m : Marked) → is_elsewhere (seen bytes watched.Nothing (ms ++ m ∷ [])) ≡ (m.terminal == colons && not (ends_in (is_word bytes (codes "Communication_Properties")) ms))
elsewhere-push bytes ms m =
    let w = seen bytes watched.Nothing ms in
    let text = own bytes m.token in
    ap is_elsewhere (seen-append bytes watched.Nothing ms (m ∷ []))
    ∙ elsewhere-next (m.terminal == name) (same text (codes "Timing")) (same text (codes "Communication_Properties")) (m.terminal == colons) (is_elsewhere w) (is_set_name w) (name-apart m.terminal)
    ∙ ap (λ b. m.terminal == colons && not b) (set-is bytes ms)

foreign-elsewhere : (bytes : List ℕ) (ms : List Marked) → IsForeign bytes ms → is_elsewhere (seen bytes watched.Nothing ms) ≡ true
foreign-elsewhere bytes ms f =
    let set = ends_in (is_word bytes (codes "Communication_Properties")) f.front in
    ap (λ q. is_elsewhere (seen bytes watched.Nothing q)) f.parts
    ∙ elsewhere-push bytes f.front f.join
    ∙ and_from (f.join.terminal == colons) (not set) (eq-eqb f.join.terminal colons f.joins) (not_from_false set f.other)

elsewhere-foreign : (bytes : List ℕ) (ms : List Marked) → is_elsewhere (seen bytes watched.Nothing ms) ≡ true → IsForeign bytes ms
elsewhere-foreign bytes ms h =
    elim (ends ms) [
      | inl e ↦ absurd (both_ways false refl (sym (ap (λ q. is_elsewhere (seen bytes watched.Nothing q)) e) ∙ h))
      | inr r ↦
          let m = r.1 in
          let set = ends_in (is_word bytes (codes "Communication_Properties")) r.0 in
          let both : (m.terminal == colons && not set) ≡ true = sym (elsewhere-push bytes r.0 m) ∙ sym (ap (λ q. is_elsewhere (seen bytes watched.Nothing q)) r.2) ∙ h in
          let p = and_parts (m.terminal == colons) (not set) both in
          record { front = r.0; join = m; parts = r.2; joins = eqb-true m.terminal colons p.0; other = not-true set p.1 }
    ]

-- where the value comes next a timing stands among the tokens
at-arrow : (bytes : List ℕ) (n : Bool) (ms : List Marked) (m : Marked) → m.terminal ≡ gives → is_timing (seen bytes watched.Nothing ms) ≡ true → IsTimed bytes n (ms ++ m ∷ [])
at-arrow bytes n ms m is h =
    elim (ends ms) [
      | inl e ↦ absurd (both_ways false refl (sym (ap (λ q. is_timing (seen bytes watched.Nothing q)) e) ∙ h))
      | inr r ↦
          let t = r.1 in
          let w = seen bytes watched.Nothing r.0 in
          let both : (is_word bytes (codes "Timing") t && not (is_elsewhere w)) ≡ true =
          sym (is-timing bytes w t) ∙ ap is_timing (sym (seen-append bytes watched.Nothing r.0 (t ∷ []))) ∙ sym (ap (λ q. is_timing (seen bytes watched.Nothing q)) r.2) ∙ h in
          let p = and_parts (is_word bytes (codes "Timing") t) (not (is_elsewhere w)) both in
          record {
            inner = r.0;
            timing = t;
            arrow = m;
            between = [];
            parts = ap (λ q. q ++ m ∷ []) r.2 ∙ append_assoc r.0 (t ∷ []) (m ∷ []);
            named = p.0;
            free = λ f. both_ways (is_elsewhere w) (not-true (is_elsewhere w) p.1) (foreign-elsewhere bytes r.0 f);
            given = is;
            next = inr refl;
          }
    ]

no-name-yet : (n : Bool) (between : List Marked) → n ≡ true → ((n ≡ true) × (has_name between ≡ false)) ⊎ (between ≡ []) → has_name between ≡ false
no-name-yet n between is (inl h) = h.1
no-name-yet n between is (inr e) = ap has_name e

one-more : (bytes : List ℕ) (n : Bool) (ms : List Marked) (m : Marked) → IsTimed bytes n ms → n ≡ true → (m.terminal == name) ≡ false → IsTimed bytes n (ms ++ m ∷ [])
one-more bytes n ms m t is other = record {
  inner = t.inner;
  timing = t.timing;
  arrow = t.arrow;
  between = t.between ++ m ∷ [];
  parts = ap (λ q. q ++ m ∷ []) t.parts ∙ append_assoc t.inner (t.timing ∷ (t.arrow ∷ t.between)) (m ∷ []);
  named = t.named;
  free = t.free;
  given = t.given;
  next = inl (is, list_any-append (λ (k : Marked). k.terminal == name) t.between (m ∷ []) ∙ or_from (has_name t.between) (has_name (m ∷ [])) (no-name-yet n t.between is t.next) (or_from (m.terminal == name) false other refl));
}

timed-push : (bytes : List ℕ) (n : Bool) (ms : List Marked) (m : Marked) → (comes bytes n watched.Nothing false ms ≡ true → IsTimed bytes n ms) → comes bytes n watched.Nothing false (ms ++ m ∷ []) ≡ true → IsTimed bytes n (ms ++ m ∷ [])
timed-push bytes n ms m before h =
    let w = seen bytes watched.Nothing ms in
    let v = comes bytes n watched.Nothing false ms in
    let e : ((m.terminal == gives && is_timing w) || (v && (n && not (m.terminal == name)))) ≡ true = sym (comes-append bytes n watched.Nothing false ms (m ∷ [])) ∙ h in
    elim (or_cases (m.terminal == gives && is_timing w) (v && (n && not (m.terminal == name))) e) [
      | inl x ↦ let p = and_parts (m.terminal == gives) (is_timing w) x in at-arrow bytes n ms m (eqb-true m.terminal gives p.0) p.1
      | inr x ↦
          let p = and_parts v (n && not (m.terminal == name)) x in
          let q = and_parts n (not (m.terminal == name)) p.1 in
          one-more bytes n ms m (before p.0) q.0 (not-true (m.terminal == name) q.1)
    ]

timed-go : (bytes : List ℕ) (n : Bool) (done rest : List Marked) → (comes bytes n watched.Nothing false done ≡ true → IsTimed bytes n done) → comes bytes n watched.Nothing false (done ++ rest) ≡ true → IsTimed bytes n (done ++ rest)
timed-go bytes n done [] p = subst (λ q. comes bytes n watched.Nothing false q ≡ true → IsTimed bytes n q) (sym (append-nil done)) p
timed-go bytes n done (m ∷ rest) p =
    subst (λ q. comes bytes n watched.Nothing false q ≡ true → IsTimed bytes n q) (append_assoc done (m ∷ []) rest) (timed-go bytes n (done ++ m ∷ []) rest (timed-push bytes n done m p))

timed-from : (bytes : List ℕ) (n : Bool) (ms : List Marked) → comes bytes n watched.Nothing false ms ≡ true → IsTimed bytes n ms
timed-from bytes n ms = timed-go bytes n [] ms (λ e. absurd (both_ways false refl e))

-- and where one stands the value comes next
keeps : (bytes : List ℕ) (n : Bool) (w : Watched) (v : Bool) (ms : List Marked) → v ≡ true → n ≡ true → has_name ms ≡ false → comes bytes n w v ms ≡ true
keeps bytes n w v [] on is none = on
keeps bytes n w v (m ∷ ms) on is none =
    let p = or_parts (m.terminal == name) (has_name ms) none in
    let stays : (v && (n && not (m.terminal == name))) ≡ true = and_from v (n && not (m.terminal == name)) on (and_from n (not (m.terminal == name)) is (not_from_false (m.terminal == name) p.0)) in
    keeps bytes n (watched_after w m.terminal (own bytes m.token)) ((m.terminal == gives && is_timing w) || (v && (n && not (m.terminal == name)))) ms
    (or_right (m.terminal == gives && is_timing w) (v && (n && not (m.terminal == name))) stays)
    is
    p.1

comes-next : (bytes : List ℕ) (n : Bool) (w : Watched) (v : Bool) (ms : List Marked) → v ≡ true → ((n ≡ true) × (has_name ms ≡ false)) ⊎ (ms ≡ []) → comes bytes n w v ms ≡ true
comes-next bytes n w v ms on (inl h) = keeps bytes n w v ms on h.0 h.1
comes-next bytes n w v ms on (inr e) = ap (comes bytes n w v) e ∙ on

then-comes : (bytes : List ℕ) (n : Bool) (ms : List Marked) → IsTimed bytes n ms → comes bytes n watched.Nothing false ms ≡ true
then-comes bytes n ms t =
    let w = seen bytes watched.Nothing t.inner in
    let u = watched_after w t.timing.terminal (own bytes t.timing.token) in
    let v = comes bytes n watched.Nothing false t.inner in
    let at = (t.timing.terminal == gives && is_timing w) || (v && (n && not (t.timing.terminal == name))) in
    let free : is_elsewhere w ≡ false = false_from_ne_true (is_elsewhere w) (λ e. t.free (elsewhere-foreign bytes t.inner e)) in
    let timing : is_timing u ≡ true = is-timing bytes w t.timing ∙ and_from (is_word bytes (codes "Timing") t.timing) (not (is_elsewhere w)) t.named (not_from_false (is_elsewhere w) free) in
    let on : (t.arrow.terminal == gives && is_timing u) ≡ true = and_from (t.arrow.terminal == gives) (is_timing u) (eq-eqb t.arrow.terminal gives t.given) timing in
    ap (comes bytes n watched.Nothing false) t.parts
    ∙ comes-append bytes n watched.Nothing false t.inner (t.timing ∷ (t.arrow ∷ t.between))
    ∙ comes-next
    bytes
    n
    (watched_after u t.arrow.terminal (own bytes t.arrow.token))
    ((t.arrow.terminal == gives && is_timing u) || (at && (n && not (t.arrow.terminal == name))))
    t.between
    (or_left (t.arrow.terminal == gives && is_timing u) (at && (n && not (t.arrow.terminal == name))) on)
    t.next

-- where a timing is looked for
spot-region : (k : ℕ) → is_connection (region_of k) ≡ is_spot k
spot-region k = go (is_spot k) (k == 26)
  where
    go : (a b : Bool) → is_connection (if a then region.Connection else (if b then region.Properties else region.Nothing)) ≡ a
    go true b = refl
    go false true = refl
    go false false = refl

nowhere-region : (k : ℕ) → is_nowhere (region_of k) ≡ not (is_spot k || k == 26)
nowhere-region k = go (is_spot k) (k == 26)
  where
    go : (a b : Bool) → is_nowhere (if a then region.Connection else (if b then region.Properties else region.Nothing)) ≡ not (a || b)
    go true b = refl
    go false true = refl
    go false false = refl

opens-marked : (k : ℕ) → (is_spot k || k == 26) ≡ true → (k == unmarked) ≡ false
opens-marked k h =
    elim (or_cases (is_spot k) (k == 26) h) [
      | inl x ↦ elim (or_cases (k == 16) (k == 17) x) [
        | inl y ↦ subst (λ j. (j == unmarked) ≡ false) (sym (eqb-true k 16 y)) refl
        | inr y ↦ subst (λ j. (j == unmarked) ≡ false) (sym (eqb-true k 17 y)) refl
      ]
      | inr x ↦ subst (λ j. (j == unmarked) ≡ false) (sym (eqb-true k 26 x)) refl
    ]

-- what is known behind a token that opens such a place, and unmarked ones
behind-opening : (bytes : List ℕ) (k : ℕ) (rest : List Marked) → is_nowhere (region_of k) ≡ false → has_marked rest ≡ false →
    over bytes (fresh k) rest ≡ record { region = region_of k; watched = seen bytes watched.Nothing rest; value = comes bytes (is_spot k) watched.Nothing false rest }
behind-opening bytes k rest somewhere plain =
    inside-over bytes (fresh k) rest somewhere plain
    ∙ ap (λ (b : Bool). record { region = region_of k; watched = seen bytes watched.Nothing rest; value = comes bytes b watched.Nothing false rest }) (spot-region k)

delayed-here : (bytes : List ℕ) (front : List Marked) (m : Marked) (t : Timing) (st : Stretch bytes start.timing front) → t ≡ over bytes start.timing front → (m.mark == unmarked) ≡ true → is_nowhere t.region ≡ false → t.value ≡ true → is_word bytes (codes "delayed") m ≡ true → IsDelayed bytes front m
delayed-here bytes front m t st behind unmarks somewhere value word =
    let k = st.opening.mark in
    let now : t ≡ over bytes (fresh k) st.rest = behind ∙ st.behind in
    let open-here : is_nowhere (region_of k) ≡ false =
    false_from_ne_true (is_nowhere (region_of k)) (λ e. both_ways (is_nowhere t.region) somewhere (ap (λ (q : Timing). is_nowhere q.region) (now ∙ stays bytes (fresh k) st.rest e st.plain) ∙ e)) in
    let all = now ∙ behind-opening bytes k st.rest open-here st.plain in
    let v : comes bytes (is_spot k) watched.Nothing false st.rest ≡ true = sym (ap (λ (q : Timing). q.value) all) ∙ value in
    record {
      before = st.before;
      opening = st.opening;
      rest = st.rest;
      parts = st.parts;
      opens = not-false (is_spot k || k == 26) (sym (nowhere-region k) ∙ open-here);
      plain = list_any-append (λ (j : Marked). not (j.mark == unmarked)) st.rest (m ∷ []) ∙ or_from (has_marked st.rest) (has_marked (m ∷ [])) st.plain (or_from (not (m.mark == unmarked)) false (ap not unmarks) refl);
      timed = timed-from bytes (is_spot k) st.rest v;
      delayed = word;
    }

delayed-at : (bytes : List ℕ) (front : List Marked) (m : Marked) (t : Timing) → t ≡ over bytes start.timing front → (m.mark == unmarked) ≡ true → is_nowhere t.region ≡ false → t.value ≡ true → is_word bytes (codes "delayed") m ≡ true → IsDelayed bytes front m
delayed-at bytes front m t behind unmarks somewhere value word =
    elim (stretch bytes start.timing front) [
      | inl none ↦ absurd (both_ways (is_nowhere t.region) somewhere (ap (λ (q : Timing). is_nowhere q.region) (behind ∙ stays bytes start.timing front refl none)))
      | inr st ↦ delayed-here bytes front m t st behind unmarks somewhere value word
    ]

pub first-delayed : (bytes : List ℕ) (ms : List Marked) (r : Refusal) → run bytes start ms ≡ Err r → r.rule ≡ Unsupported (record { number = delayed }) → IsFirstDelayed bytes ms r
first-delayed bytes ms r e rule =
    let b = broken bytes start ms r e in
    elim (all-err (obey_names bytes b.last.names b.at) (obey_sections b.last.sections b.at) (obey_timing bytes b.last.timing b.at) r b.broken) [
      | inl h ↦ let f : EndName ≡ Unsupported (record { number = delayed }) = sym (name-rule bytes b.last.names b.at r h) ∙ rule in absurd cc
      | inr h ↦ elim h [
        | inl k ↦ let f : Twice ≡ Unsupported (record { number = delayed }) = sym (section-rule b.last.sections b.at r k) ∙ rule in absurd cc
        | inr k ↦
            let s = timing-said bytes b.last.timing b.at r k in
            let p = and_parts b.last.timing.value (is_word bytes (codes "delayed") b.at) s.2 in
            record {
              front = b.front;
              value = b.at;
              behind = b.behind;
              parts = b.parts;
              obeyed = (b.last, b.obeyed);
              late = delayed-at bytes b.front b.at b.last.timing (timing-behind bytes start b.last b.front b.obeyed) s.0 s.1 p.0 p.1;
              told = s.3;
            }
      ]
    ]

-- and the other way round
opened : (bytes : List ℕ) (t : Timing) (before rest : List Marked) (m : Marked) → (m.mark == unmarked) ≡ false → over bytes t (before ++ m ∷ rest) ≡ over bytes (fresh m.mark) rest
opened bytes t before rest m marks =
    let old = over bytes t before in
    over-append bytes t before (m ∷ rest)
    ∙ ap (λ (b : Bool). over bytes (if not b then fresh m.mark else (if is_nowhere old.region then old else inside bytes old m)) rest) marks

timing-refused : (bytes : List ℕ) (t : Timing) (m : Marked) → (m.mark == unmarked) ≡ true → is_nowhere t.region ≡ false → t.value ≡ true → is_word bytes (codes "delayed") m ≡ true → obey_timing bytes t m ≡ Err (refused_at (Unsupported (record { number = delayed })) m.token)
timing-refused bytes t m unmarks somewhere value word =
    let text = own bytes m.token in
    let q = refused_at (Unsupported (record { number = delayed })) m.token in
    ap (λ (b : Bool). if not b then Ok (fresh m.mark) else (if is_nowhere t.region then Ok t else timing_inside text t m)) unmarks
    ∙ ap (λ (b : Bool). if b then Ok t else timing_inside text t m) somewhere
    ∙ ap (λ (b : Bool). if b then Err q else Ok (inside bytes t m)) (and_from t.value (is_word bytes (codes "delayed") m) value word)

refused-here : (bytes : List ℕ) (c : Context) (m : Marked) (q : Refusal) → (m.mark == unmarked) ≡ true → obey_timing bytes c.timing m ≡ Err q → obey bytes c m ≡ Err q
refused-here bytes c m q unmarks timing =
    let new = names_after c.names m in
    let zero-mark = eqb-true m.mark unmarked unmarks in
    let right : is_misnamed bytes new m.mark ≡ false = ap (is_misnamed bytes new) zero-mark in
    let names : obey_names bytes c.names m ≡ Ok new = ap (λ (b : Bool). if b then Err (misnamed new) else Ok new) right in
    let sections : obey_sections c.sections m ≡ Ok c.sections = ap (λ k. obey_sections c.sections (record { mark = k; terminal = m.terminal; token = m.token })) zero-mark in
    ap (λ n. all_obeyed n (obey_sections c.sections m) (obey_timing bytes c.timing m)) names
    ∙ ap (λ s. all_obeyed (Ok new) s (obey_timing bytes c.timing m)) sections
    ∙ ap (λ t. all_obeyed (Ok new) (Ok c.sections) t) timing

delayed-broken : (bytes : List ℕ) (front behind : List Marked) (m : Marked) (c : Context) → run bytes start front ≡ Ok c → IsDelayed bytes front m → run bytes start (front ++ m ∷ behind) ≡ Err (refused_at (Unsupported (record { number = delayed })) m.token)
delayed-broken bytes front behind m c obeyed d =
    let k = d.opening.mark in
    let both = or_parts (has_marked d.rest) (has_marked (m ∷ [])) (sym (list_any-append (λ (j : Marked). not (j.mark == unmarked)) d.rest (m ∷ [])) ∙ d.plain) in
    let unmarks = (plain-head m [] both.1).0 in
    let somewhere : is_nowhere (region_of k) ≡ false = nowhere-region k ∙ not_from_true (is_spot k || k == 26) d.opens in
    let all = timing-behind bytes start c front obeyed ∙ ap (over bytes start.timing) d.parts ∙ opened bytes start.timing d.before d.rest d.opening (opens-marked k d.opens) ∙ behind-opening bytes k d.rest somewhere both.0 in
    let here : is_nowhere c.timing.region ≡ false = ap (λ (q : Timing). is_nowhere q.region) all ∙ somewhere in
    let value : c.timing.value ≡ true = ap (λ (q : Timing). q.value) all ∙ then-comes bytes (is_spot k) d.rest d.timed in
    let q = refused_at (Unsupported (record { number = delayed })) m.token in
    breaks bytes start c front m behind q obeyed (refused-here bytes c m q unmarks (timing-refused bytes c.timing m unmarks here value d.delayed))

pub delayed-refused : (bytes : List ℕ) (ms : List Marked) (r : Refusal) → IsFirstDelayed bytes ms r → run bytes start ms ≡ Err r
delayed-refused bytes ms r h = ap (run bytes start) h.parts ∙ delayed-broken bytes h.front h.behind h.value h.obeyed.0 h.obeyed.1 h.late ∙ ap (λ x. Err x) (sym h.told)

pub not-delayed : (bytes : List ℕ) (front behind : List Marked) (value : Marked) → Obeys bytes (front ++ value ∷ behind) → IsDelayed bytes front value → ⊥
not-delayed bytes front behind value o d =
    let f = front-obeys bytes start o.0 front (value ∷ behind) o.1 in
    let g : Err (refused_at (Unsupported (record { number = delayed })) value.token) ≡ Ok o.0 = sym (delayed-broken bytes front behind value f.0 f.1 d) ∙ o.1 in
    absurd cc
