-- The first connection by which a port gets a second source, found by the set of ports that have one.
use Rattle.std.proofs.Common.{◌≡◌, ℕ, ◌+◌, Bool, true, false, cond, not, ◌||◌, List, length, take, drop, Option, Some, None, refl, ap, sym, subst, ◌∙◌, arith}
use Rattle.std.specs.Prelude.{◌&&◌, ◌==◌, option_and_then, position, slice_get}
use Rattle.std.specs.Option.{option_cmp, option_map}
use Rattle.std.specs.Ordering.{is_eq, nat_cmp, ordering_then}
use Rattle.std.specs.declared.cmp.Ordering.{Ordering}
use Rattle.std.specs.declared.cmp.Ordering.TheVariants.{Less, Equal, Greater}
use Rattle.std.proofs.lemmas.Bool.Decides.{nat_tests}
use Rattle.ag_terms.specs.declared.names.Ident.{Ident}
use Rattle.ag_terms.specs.Names.{same}
use Rattle.ag_aadl.specs.declared.packages.Package.{Package}
use Rattle.ag_aadl.specs.declared.packages.Port.{Port}
use Rattle.ag_aadl.specs.declared.packages.Sub.{Sub}
use Rattle.ag_names.specs.Found.{own_type, type_named, type_of}
use Rattle.ag_names.specs.Placed.{Type', Implementation}
use Rattle.ag_names.proofs.Neighbours.{part_one, part_other}
use Rattle.std.specs.List.{list_any}
use Rattle.std.proofs.lemmas.Bool.{false≢true}
use Rattle.std.proofs.lemmas.List.Folds.{list_any_more}
use Rattle.std.proofs.lemmas.Option.{slice_get_within, get_or_from_slice_get}
use Rattle.ag_base.specs.declared.place.Refusal.{Refusal}
use Rattle.ag_base.specs.declared.place.Rule.TheVariants.{TwoSources}
use Rattle.ag_aadl.specs.declared.packages.Wire.{Wire}
use Rattle.ag_names.specs.Ends.{EndPoint, end_from, port_in, port_under, same_component}
use Rattle.ag_names.specs.Order.{IsFirst, earlier}
use Rattle.ag_names.specs.Passes.{HasSecondSource, end_of}
use Rattle.ag_names.specs.Ports.{has_stream}
use Rattle.ag_names.specs.Tables.{Component, sourced}
use Rattle.ag_names.proofs.First.{Below, earlier_none, first_below_more, first_only, first_same}
use Rattle.ag_names.proofs.Seconds.{any_contains, contains_any, found, parts_at, taken}

-- the port with a stream to which a connection leads
abbrev pub target_of : Component → Wire → Option (Option ℕ × ℕ)
target_of k w = sourced (end_of k w.from) (end_of k w.to)

-- two ports are one, as positions
abbrev pub same_target : Option ℕ × ℕ → Option ℕ × ℕ → Bool
same_target p q = same_component p.0 q.0 && p.1 == q.1

abbrev pub is_at : Option ℕ × ℕ → Option (Option ℕ × ℕ) → Bool
is_at q None = false
is_at q (Some p) = same_target p q

-- the connection leads there
abbrev pub leads_to : Component → Option ℕ × ℕ → Wire → Bool
leads_to k q w = is_at q (target_of k w)

abbrev pub second_at : Wire → Refusal
second_at w = record { place = w.name.place; rule = TwoSources }

-- the connection at a position leads to a port to which one in front of it leads
pub record IsSecondAt (k : Component) (at : ℕ) (r : Refusal) : Type 0 where
  pub second : Wire
  pub target : Option ℕ × ℕ
  pub here : slice_get k.implementation.body.wires at ≡ Some second
  pub leads : target_of k second ≡ Some target
  pub before : list_any (leads_to k target) (take at k.implementation.body.wires) ≡ true
  pub refusal : r ≡ second_at second

pub some_is : {X : Type 0} (x y : X) → Some x ≡ Some y → y ≡ x
some_is x y e = cc

module _ (k : Component) (at : ℕ) (w : Wire) (here : slice_get k.implementation.body.wires at ≡ Some w) where
  same_wire : (v : Wire) → slice_get k.implementation.body.wires at ≡ Some v → v ≡ w
  same_wire v e = some_is w v (sym here ∙ e)

  pub first_more_second : (q : Option ℕ × ℕ) → target_of k w ≡ Some q → list_any (leads_to k q) (take at k.implementation.body.wires) ≡ true → (old new : Option Refusal)
      → new ≡ earlier old (Some (second_at w)) → IsFirst (Below (IsSecondAt k) at) old → IsFirst (Below (IsSecondAt k) (at + 1)) new
  first_more_second q e b old new f h =
      subst (IsFirst (Below (IsSecondAt k) (at + 1))) (sym f)
      (first_below_more (IsSecondAt k) at old (Some (second_at w)) h
      (first_only (IsSecondAt k at) (second_at w) (record { second = w; target = q; here = here; leads = e; before = b; refusal = refl })
      (λ r t. t.refusal ∙ ap second_at (same_wire t.second t.here))))

  none_here : ((t : Option ℕ × ℕ) → target_of k w ≡ Some t → list_any (leads_to k t) (take at k.implementation.body.wires) ≡ true → ⊥) → (r : Refusal) → IsSecondAt k at r → ⊥
  none_here never r t = never t.target (ap (target_of k) (sym (same_wire t.second t.here)) ∙ t.leads) t.before

  pub first_more_none : ((t : Option ℕ × ℕ) → target_of k w ≡ Some t → list_any (leads_to k t) (take at k.implementation.body.wires) ≡ true → ⊥) → (old new : Option Refusal)
      → new ≡ old → IsFirst (Below (IsSecondAt k) at) old → IsFirst (Below (IsSecondAt k) (at + 1)) new
  first_more_none never old new f h =
      subst (IsFirst (Below (IsSecondAt k) (at + 1))) (earlier_none old ∙ sym f)
      (first_below_more (IsSecondAt k) at old None h (none_here never))

-- ---- by positions and by parts the same are refused

none_some : {X : Type 0} {x : X} → None ≡ Some x → ⊥
none_some e = cc

record Leads (s t : Option EndPoint) (q : Option ℕ × ℕ) : Type 0 where
  source : EndPoint
  target : EndPoint
  from : s ≡ Some source
  to : t ≡ Some target
  carries : has_stream target.port ≡ true
  is : q ≡ record { 0 = target.sub; 1 = target.at }

leads_from : (s : EndPoint) (t : EndPoint) (q : Option ℕ × ℕ) (b : Bool) → has_stream t.port ≡ b → cond b (Some (record { 0 = t.sub; 1 = t.at })) None ≡ Some q → Leads (Some s) (Some t) q
leads_from s t q true e f = record { source = s; target = t; from = refl; to = refl; carries = e; is = some_is (record { 0 = t.sub; 1 = t.at }) q f }
leads_from s t q false e f = absurd (none_some f)

leads_by : (s t : Option EndPoint) (q : Option ℕ × ℕ) → sourced s t ≡ Some q → Leads s t q
leads_by None t q e = absurd (none_some e)
leads_by (Some s) None q e = absurd (none_some e)
leads_by (Some s) (Some t) q e = leads_from s t q (has_stream t.port) refl e

back : (s t : EndPoint) → has_stream t.port ≡ true → sourced (Some s) (Some t) ≡ Some (record { 0 = t.sub; 1 = t.at })
back s t e = ap (λ (b : Bool). cond b (Some (record { 0 = t.sub; 1 = t.at })) None) e

target_by : (q : Option ℕ × ℕ) (o : Option (Option ℕ × ℕ)) → is_at q o ≡ true → (p : Option ℕ × ℕ) × (o ≡ Some p) × (same_target p q ≡ true)
target_by q None e = absurd (false≢true e)
target_by q (Some p) e = (p, refl, e)

to_second : (k : Component) (r : Refusal) → Below (IsSecondAt k) (length k.implementation.body.wires) r → HasSecondSource k r
to_second k r m =
    let t = m.2 in
    let wires : List Wire = k.implementation.body.wires in
    let w = any_contains (leads_to k t.target) (take m.0 wires) t.before in
    let p = target_by t.target (target_of k w.0) w.2 in
    let a = leads_by (end_of k w.0.from) (end_of k w.0.to) p.0 p.1 in
    let d = leads_by (end_of k t.second.from) (end_of k t.second.to) t.target t.leads in
    record {
      before = take m.0 wires;
      first = w.0;
      second = t.second;
      behind = drop (m.0 + 1) wires;
      parts = parts_at wires m.0 t.second t.here;
      earlier = w.1;
      one = record { source = a.source; target = a.target; from = a.from; to = a.to };
      other = record { source = d.source; target = d.target; from = d.from; to = d.to };
      same = ap (λ (z : Option ℕ × ℕ). same_target z (record { 0 = d.target.sub; 1 = d.target.at })) (sym a.is) ∙ ap (same_target p.0) (sym d.is) ∙ p.2;
      carries = d.carries;
      refusal = t.refusal;
    }

-- ---- an end's port is the one at its position

record IsPortOf (sub : Option ℕ) (of : Option Type') (p : EndPoint) : Type 0 where
  at : p.sub ≡ sub
  port : option_and_then (λ t. slice_get t.frame.ports p.at) of ≡ Some p.port

port_read : (sub : Option ℕ) (t : Type') (at : ℕ) (p : EndPoint) (g : Option Port) → slice_get t.frame.ports at ≡ g
    → option_map (λ port. record { sub = sub; at = at; port = port }) g ≡ Some p → IsPortOf sub (Some t) p
port_read sub t at p None e f = absurd (none_some f)
port_read sub t at p (Some port) e f =
    let is : p ≡ record { sub = sub; at = at; port = port } = some_is (record { sub = sub; at = at; port = port }) p f in
    record { at = ap (λ (z : EndPoint). z.sub) is; port = ap (λ (z : EndPoint). slice_get t.frame.ports z.at) is ∙ e ∙ ap (λ (z : EndPoint). Some z.port) (sym is) }

port_placed : (sub : Option ℕ) (t : Type') (o : Option ℕ) (p : EndPoint)
    → option_and_then (λ at. option_map (λ port. record { sub = sub; at = at; port = port }) (slice_get t.frame.ports at)) o ≡ Some p → IsPortOf sub (Some t) p
port_placed sub t None p f = absurd (none_some f)
port_placed sub t (Some at) p f = port_read sub t at p (slice_get t.frame.ports at) refl f

port_found : (sub : Option ℕ) (of : Option Type') (name : List ℕ) (p : EndPoint) → port_in sub of name ≡ Some p → IsPortOf sub of p
port_found sub None name p f = absurd (none_some f)
port_found sub (Some t) name p f = port_placed sub t (position (λ q. same q.name.text name) t.frame.ports) p f

module _ (all : List Package) (i : Implementation) where
  port_by : Option ℕ → ℕ → Option Port
  port_by None at = option_and_then (λ t. slice_get t.frame.ports at) (type_named all (own_type i.owner i.body))
  port_by (Some n) at = option_and_then (λ s. option_and_then (λ t. slice_get t.frame.ports at) (type_of all i.owner s)) (slice_get i.body.subs n)

  under_sub : (n : ℕ) (name : List ℕ) (p : EndPoint) (g : Option Sub) → slice_get i.body.subs n ≡ g
      → option_and_then (λ s. port_in (Some n) (type_of all i.owner s) name) g ≡ Some p → port_by p.sub p.at ≡ Some p.port
  unfolding port_by
  under_sub n name p None e f = absurd (none_some f)
  under_sub n name p (Some s) e f =
      let h = port_found (Some n) (type_of all i.owner s) name p f in
      ap (λ (z : Option ℕ). port_by z p.at) h.at ∙ ap (option_and_then (λ s. option_and_then (λ t. slice_get t.frame.ports p.at) (type_of all i.owner s))) e ∙ h.port

  under : (o : Option ℕ) (name : List ℕ) (p : EndPoint) → port_under all i o name ≡ Some p → port_by p.sub p.at ≡ Some p.port
  under None name p f = absurd (none_some f)
  under (Some n) name p f = under_sub n name p (slice_get i.body.subs n) refl f

  by_end : (sub : Option Ident) (name : List ℕ) (p : EndPoint) → end_from all i sub name ≡ Some p → port_by p.sub p.at ≡ Some p.port
  unfolding port_by
  by_end None name p f =
      let h = port_found None (type_named all (own_type i.owner i.body)) name p f in
      ap (λ (z : Option ℕ). port_by z p.at) h.at ∙ h.port
  by_end (Some sub) name p f = under (position (λ s. same s.name.text sub.text) i.body.subs) name p f

same_number : (a b : ℕ) → (a == b) ≡ true → a ≡ b
same_number a b e = grind (arith, nat_tests)

same_sub : (a b : Option ℕ) → same_component a b ≡ true → a ≡ b
same_sub None None e = refl
same_sub None (Some t) e = absurd (false≢true e)
same_sub (Some s) None e = absurd (false≢true e)
same_sub (Some s) (Some t) e = ap (λ (z : ℕ). Some z) (same_number s t e)

first_streams : (k : Component) (r : Refusal) (t : HasSecondSource k r) → has_stream t.one.target.port ≡ true
first_streams k r t =
    let a = t.one.target in
    let b = t.other.target in
    let subs = same_sub a.sub b.sub (part_one (same_component a.sub b.sub) (a.at == b.at) t.same) in
    let places = same_number a.at b.at (part_other (same_component a.sub b.sub) (a.at == b.at) t.same) in
    let here = by_end k.all k.implementation t.first.to.sub t.first.to.port.text a t.one.to in
    let there = by_end k.all k.implementation t.second.to.sub t.second.to.port.text b t.other.to in
    let ports : a.port ≡ b.port = some_is b.port a.port (sym there ∙ sym (ap (λ (z : Option ℕ). port_by k.all k.implementation z a.at) subs ∙ ap (port_by k.all k.implementation b.sub) places) ∙ here) in
    ap has_stream ports ∙ t.carries

from_second : (k : Component) (r : Refusal) → HasSecondSource k r → Below (IsSecondAt k) (length k.implementation.body.wires) r
from_second k r t =
    let wires : List Wire = k.implementation.body.wires in
    let at = found wires t.before t.behind t.second t.parts in
    let q : Option ℕ × ℕ = record { 0 = t.other.target.sub; 1 = t.other.target.at } in
    let same : same_target (record { 0 = t.one.target.sub; 1 = t.one.target.at }) q ≡ true = t.same in
    let first : target_of k t.first ≡ Some (record { 0 = t.one.target.sub; 1 = t.one.target.at }) =
    ap (λ (z : Option EndPoint). sourced z (end_of k t.first.to)) t.one.from ∙ ap (λ (z : Option EndPoint). sourced (Some t.one.source) z) t.one.to
    ∙ back t.one.source t.one.target (first_streams k r t) in (
      length t.before,
      slice_get_within wires (length t.before) t.second at,
      record {
        second = t.second;
        target = q;
        here = at;
        leads = ap (λ (z : Option EndPoint). sourced z (end_of k t.second.to)) t.other.from ∙ ap (λ (z : Option EndPoint). sourced (Some t.other.source) z) t.other.to
            ∙ back t.other.source t.other.target t.carries;
        before = subst (λ (z : List Wire). list_any (leads_to k q) z ≡ true) (sym (taken wires t.before t.behind t.second t.parts))
            (contains_any (leads_to k q) t.before t.first t.earlier (ap (is_at q) first ∙ same));
        refusal = t.refusal;
      },
    )

pub first_of_wires : (k : Component) (a : Option Refusal) → IsFirst (Below (IsSecondAt k) (length k.implementation.body.wires)) a → IsFirst (HasSecondSource k) a
first_of_wires k a h = first_same (Below (IsSecondAt k) (length k.implementation.body.wires)) (HasSecondSource k) a (to_second k) (from_second k) h

-- ---- the set of ports that have a source

abbrev pub order : Option ℕ × ℕ → Option ℕ × ℕ → Ordering
order x y = ordering_then (option_cmp nat_cmp x.0 y.0) (nat_cmp x.1 y.1)

tied_number : (a b : ℕ) → is_eq (nat_cmp a b) ≡ (a == b)
tied_number a b = grind (arith, nat_tests)

tied_then : (o p : Ordering) → is_eq (ordering_then o p) ≡ (is_eq o && is_eq p)
tied_then Less p = refl
tied_then Equal p = refl
tied_then Greater p = refl

tied_sub : (a b : Option ℕ) → is_eq (option_cmp nat_cmp a b) ≡ same_component a b
tied_sub None None = refl
tied_sub None (Some t) = refl
tied_sub (Some s) None = refl
tied_sub (Some s) (Some t) = tied_number s t

pub tied : (x y : Option ℕ × ℕ) → is_eq (order x y) ≡ same_target x y
tied x y =
    tied_then (option_cmp nat_cmp x.0 y.0) (nat_cmp x.1 y.1) ∙ ap (λ (z : Bool). z && is_eq (nat_cmp x.1 y.1)) (tied_sub x.0 y.0)
    ∙ ap (λ (z : Bool). same_component x.0 y.0 && z) (tied_number x.1 y.1)

-- ---- a step of the loop

or_swapped : (a b : Bool) → cond a true b ≡ (b || a)
or_swapped true true = refl
or_swapped true false = refl
or_swapped false true = refl
or_swapped false false = refl

or_false : (b : Bool) → b ≡ (b || false)
or_false true = refl
or_false false = refl

module _ (k : Component) (xs : List Wire) (at : ℕ) (w : Wire) (here : slice_get xs at ≡ Some w) where
  one_more : (q : Option ℕ × ℕ) → list_any (leads_to k q) (take (at + 1) xs) ≡ (list_any (leads_to k q) (take at xs) || leads_to k q w)
  one_more q =
      list_any_more (leads_to k q) xs at w (slice_get_within xs at w here)
      ∙ ap (λ (z : Wire). list_any (leads_to k q) (take at xs) || leads_to k q z) (get_or_from_slice_get xs at w w here)

  pub seen_more : (d q : Option ℕ × ℕ) (was is : Bool) → target_of k w ≡ Some d → is ≡ cond (is_eq (order d q)) true was → was ≡ list_any (leads_to k q) (take at xs)
      → is ≡ list_any (leads_to k q) (take (at + 1) xs)
  seen_more d q was is e h f =
      h ∙ or_swapped (is_eq (order d q)) was ∙ ap (λ (z : Bool). was || z) (tied d q ∙ sym (ap (is_at q) e)) ∙ ap (λ (z : Bool). z || leads_to k q w) f ∙ sym (one_more q)

  pub seen_same : (q : Option ℕ × ℕ) (is : Bool) → target_of k w ≡ None → is ≡ list_any (leads_to k q) (take at xs) → is ≡ list_any (leads_to k q) (take (at + 1) xs)
  seen_same q is e f = f ∙ or_false (list_any (leads_to k q) (take at xs)) ∙ ap (λ (z : Bool). list_any (leads_to k q) (take at xs) || z) (sym (ap (is_at q) e)) ∙ sym (one_more q)

negated : (b : Bool) → not b ≡ false → b ≡ true
negated true h = refl
negated false h = sym h

affirmed : (b : Bool) → not b ≡ true → b ≡ false
affirmed true h = sym h
affirmed false h = refl

pub was_there : (new was any : Bool) → new ≡ not was → new ≡ false → was ≡ any → any ≡ true
was_there new was any e f g = sym g ∙ negated was (sym e ∙ f)

pub was_not_there : (new was any : Bool) → new ≡ not was → new ≡ true → was ≡ any → any ≡ false
was_not_there new was any e f g = sym g ∙ affirmed was (sym e ∙ f)
