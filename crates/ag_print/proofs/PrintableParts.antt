-- The ports, subcomponents and connections that are declared are printable.
use Rattle.std.proofs.Common.{◌≡◌, ◌⊎◌, ℕ, Bool, true, false, ◌==◌, ◌&&◌, ◌||◌, not, if◌then◌else◌, List, [], ◌∷◌, Option, Some, None, refl, sym, ap, subst, inl, inr}
use Rattle.std.specs.List.{list_all}
use Rattle.std.proofs.lemmas.Bool.{both_ways, and_parts, and_from, or_cases, or_parts, or_left, eqb-true, eqb-false, eq-eqb, ne_eqb}
use Rattle.ag_lex.specs.declared.token.Token.{Token}
use Rattle.ag_aadl.specs.declared.marked.Marked.{Marked}
use Rattle.ag_terms.specs.declared.names.Path.{Path}
use Rattle.ag_aadl.specs.Marked.{under, has_mark, is_among, up_to, segments}
use Rattle.ag_aadl.specs.Marks.{unmarked, declared_mark, package_mark, part_mark, import_mark, item_mark, owner_mark, feature_mark, direction_mark, event_mark, data_mark, class_body_mark, sub_mark, kind_mark, connection_mark, spot_mark, spot_port_mark, end_mark}
use Rattle.ag_aadl.specs.Meaning.{ident_under, path_of, class_of, kind_of, port_of, ports_of, sub_of, subs_of, end_of, part_at, wire_of, wires_of}
use Rattle.ag_print.specs.Printable.{is_printable_ident, is_printable_class, is_nothing, may_carry, is_printable_port, is_printable_sub, is_printable_end, is_printable_wire}
use Rattle.ag_print.proofs.Fitting.{is_fit}
use Rattle.ag_print.proofs.PrintableNames.{first_plain, class_plain}
use Rattle.ag_print.proofs.Segmented.{only, provided, kept_pass, not_lost, is_free, Segment, Walked, each_segment, each_walked}
use Rattle.ag_print.proofs.Situations.{Situation, Quiet, BehindOpening, BehindOwner, BehindDot, BehindSpot, BehindFeature, Lost, opens, move, is_calm, accepted, all_wider}

-- the marks that a package's parts begin with
abbrev pub part_marks : List ℕ
part_marks = package_mark ∷ import_mark ∷ item_mark ∷ end_mark ∷ []

-- a segment's head has its mark
pub head_has : (k : ℕ) (head : Marked) (rest : List Marked) → is_among (k ∷ []) head.mark ≡ true → has_mark k (head ∷ rest) ≡ true
head_has k head rest h = or_left (head.mark == k) (has_mark k rest) (eq-eqb head.mark k (only k head.mark h))

-- ---- ports

calm_feature : (s : Situation) (k : ℕ) → is_calm s ≡ true → k ≡ feature_mark → move s k ≡ BehindFeature
calm_feature Quiet k h e = ap (move Quiet) e
calm_feature BehindFeature k h e = ap (move BehindFeature) e
calm_feature BehindOpening k h e = absurd cc
calm_feature BehindOwner k h e = absurd cc
calm_feature BehindDot k h e = absurd cc
calm_feature BehindSpot k h e = absurd cc
calm_feature Lost k h e = absurd cc

by_tests : (p i d t n x : Bool) → not (p || (i || (t || (n || false)))) ≡ true → d ≡ false
    → ((if p || (i || false) then BehindOpening else (if d || (t || (n || false)) then Quiet else (if x then Lost else BehindFeature))) ≡ BehindFeature)
    ⊎ ((if p || (i || false) then BehindOpening else (if d || (t || (n || false)) then Quiet else (if x then Lost else BehindFeature))) ≡ Lost)
by_tests true i d t n x h e = absurd cc
by_tests false true d t n x h e = absurd cc
by_tests false false true t n x h e = absurd cc
by_tests false false false true n x h e = absurd cc
by_tests false false false false true x h e = absurd cc
by_tests false false false false false true h e = inr refl
by_tests false false false false false false h e = inl refl

stays : (k : ℕ) → not (is_among part_marks k) ≡ true → (k == data_mark) ≡ false → (move BehindFeature k ≡ BehindFeature) ⊎ (move BehindFeature k ≡ Lost)
stays k free other =
    let data_no : (data_mark == k) ≡ false = ne_eqb data_mark k (λ (e : data_mark ≡ k). eqb-false k data_mark other (sym e)) in
    by_tests (package_mark == k) (import_mark == k) (data_mark == k) (item_mark == k) (end_mark == k) (is_among (part_mark ∷ owner_mark ∷ spot_mark ∷ []) k) free data_no

-- behind a feature's name no classifier stands before `data`
no_parts : (ms : List Marked) → accepted BehindFeature ms ≡ true → list_all (is_free part_marks) ms ≡ true → has_mark data_mark ms ≡ false → under part_mark ms ≡ []
no_parts [] walks free none = refl
no_parts (m ∷ ms) walks free none =
    let parts = and_parts (is_free part_marks m) (list_all (is_free part_marks) ms) free in
    let no_data = or_parts (m.mark == data_mark) (has_mark data_mark ms) none in
    elim (stays m.mark parts.0 no_data.0) [
      | inl same ↦ go (m.mark == part_mark) refl (no_parts ms (subst (λ (z : Situation). accepted z ms ≡ true) same walks) parts.1 no_data.1)
      | inr lost ↦ absurd (not_lost ms (subst (λ (z : Situation). accepted z ms ≡ true) lost walks))
    ]
  where
    go : (b : Bool) → (m.mark == part_mark) ≡ b → under part_mark ms ≡ [] → (if b then m.token ∷ under part_mark ms else under part_mark ms) ≡ []
    go true e later = absurd (not_lost ms (subst (λ (z : ℕ). accepted (move BehindFeature z) ms ≡ true) (eqb-true m.mark part_mark e) walks))
    go false e later = later

carried : (event data_kind : Bool) (o : Option Path) → is_printable_class o ≡ true → (data_kind ≡ false → is_nothing o ≡ true) → may_carry (kind_of event data_kind) o ≡ true
carried true true o h none = h
carried true false o h none = none refl
carried false true o h none = h
carried false false o h none = h

-- a token of a declaration: a plain name where a name is marked, and none that begins another part
abbrev pub is_inner : List ℕ → Marked → Bool
is_inner bytes m = is_fit bytes m && is_free part_marks m

port_plain : (bytes : List ℕ) (head : Marked) (rest : List Marked) → Walked (is_inner bytes) (feature_mark ∷ []) head rest → is_printable_port (port_of bytes (head ∷ rest)) ≡ true
port_plain bytes head rest w =
    let ms = head ∷ rest in
    let is_feature = only feature_mark head.mark w.segment.begins in
    let fit = all_wider (is_inner bytes) (is_fit bytes) ms (λ m h. (and_parts (is_fit bytes m) (is_free part_marks m) h).0) w.segment.all in
    let free = all_wider (is_inner bytes) (is_free part_marks) ms (λ m h. (and_parts (is_fit bytes m) (is_free part_marks m) h).1) w.segment.all in
    let inside = (and_parts (is_free part_marks head) (list_all (is_free part_marks) rest) free).1 in
    let walks = subst (λ (z : Situation). accepted z rest ≡ true) (calm_feature w.before head.mark w.calm is_feature) w.walks in
    let named = first_plain bytes feature_mark ms refl fit (head_has feature_mark head rest w.segment.begins) in
    let classed = class_plain bytes ms fit in
    let bodies = under class_body_mark ms in
    and_from (is_printable_ident (ident_under bytes feature_mark ms)) (may_carry (kind_of (has_mark event_mark ms) (has_mark data_mark ms)) (class_of bytes ms)) named
    (carried (has_mark event_mark ms) (has_mark data_mark ms) (class_of bytes ms) classed (λ none.
    let none_behind = (or_parts (head.mark == data_mark) (has_mark data_mark rest) none).1 in
    let no_part : under part_mark ms ≡ [] = subst (λ (z : ℕ). (if z == part_mark then head.token ∷ under part_mark rest else under part_mark rest) ≡ []) (sym is_feature) (no_parts rest walks inside none_behind) in
    subst (λ (z : List Token). is_nothing (path_of bytes z bodies) ≡ true) (sym no_part) refl))

pub ports_plain : (bytes : List ℕ) (ms : List Marked) (s : Situation) → accepted s ms ≡ true → list_all (is_inner bytes) ms ≡ true → list_all is_printable_port (ports_of bytes ms) ≡ true
ports_plain bytes ms s walks all =
    let ports = segments (feature_mark ∷ []) ms in
    let each = each_walked (is_inner bytes) (feature_mark ∷ []) (λ p. is_printable_port (port_of bytes p)) refl (port_plain bytes) ms s walks all in
    kept_pass is_printable_port (port_of bytes) (has_mark direction_mark) ports
    (all_wider (λ p. is_printable_port (port_of bytes p)) (λ p. not (has_mark direction_mark p) || is_printable_port (port_of bytes p)) ports
    (λ p h. provided (has_mark direction_mark p) (is_printable_port (port_of bytes p)) (λ _. h)) each)

-- ---- subcomponents

sub_plain : (bytes : List ℕ) (head : Marked) (rest : List Marked) → Segment (is_fit bytes) (sub_mark ∷ []) head rest → is_printable_sub (sub_of bytes (head ∷ rest)) ≡ true
sub_plain bytes head rest g =
    let ms = head ∷ rest in
    and_from (is_printable_ident (ident_under bytes sub_mark ms)) (is_printable_class (class_of bytes ms)) (first_plain bytes sub_mark ms refl g.all (head_has sub_mark head rest g.begins)) (class_plain bytes ms g.all)

pub subs_plain : (bytes : List ℕ) (ms : List Marked) → list_all (is_fit bytes) ms ≡ true → list_all is_printable_sub (subs_of bytes ms) ≡ true
subs_plain bytes ms all =
    let subs = segments (sub_mark ∷ []) ms in
    let each = each_segment (is_fit bytes) (sub_mark ∷ []) (λ p. is_printable_sub (sub_of bytes p)) (sub_plain bytes) ms all in
    kept_pass is_printable_sub (sub_of bytes) (has_mark kind_mark) subs
    (all_wider (λ p. is_printable_sub (sub_of bytes p)) (λ p. not (has_mark kind_mark p) || is_printable_sub (sub_of bytes p)) subs
    (λ p h. provided (has_mark kind_mark p) (is_printable_sub (sub_of bytes p)) (λ _. h)) each)

-- ---- connections

end_plain : (bytes : List ℕ) (head : Marked) (rest : List Marked) → Segment (is_fit bytes) (spot_mark ∷ []) head rest → is_printable_end (end_of bytes (head ∷ rest)) ≡ true
end_plain bytes head rest g = go (has_mark spot_port_mark (head ∷ rest)) refl
  where
    spot : is_printable_ident (ident_under bytes spot_mark (head ∷ rest)) ≡ true
    spot = first_plain bytes spot_mark (head ∷ rest) refl g.all (head_has spot_mark head rest g.begins)

    go : (b : Bool) → has_mark spot_port_mark (head ∷ rest) ≡ b
        → is_printable_end (if b then record { sub = Some (ident_under bytes spot_mark (head ∷ rest)); port = ident_under bytes spot_port_mark (head ∷ rest) } else record { sub = None; port = ident_under bytes spot_mark (head ∷ rest) }) ≡ true
    go true e = and_from (is_printable_ident (ident_under bytes spot_mark (head ∷ rest))) (is_printable_ident (ident_under bytes spot_port_mark (head ∷ rest))) spot (first_plain bytes spot_port_mark (head ∷ rest) refl g.all e)
    go false e = spot

abbrev is_spot : Situation → Bool
is_spot BehindSpot = true
is_spot _ = false

-- behind a connection's first end its second one comes
one_spot : (ms : List Marked) → accepted BehindSpot ms ≡ true → (b : List Marked) × (more : List (List Marked)) × (segments (spot_mark ∷ []) ms ≡ b ∷ more)
one_spot [] walks = absurd cc
one_spot (m ∷ ms) walks = go (is_among (spot_mark ∷ []) m.mark) refl (one_spot ms)
  where
    other : (b c : Bool) → b ≡ false → accepted (if b then Quiet else (if c then BehindSpot else Lost)) ms ≡ true → accepted BehindSpot ms ≡ true
    other true c e h = absurd cc
    other false true e h = h
    other false false e h = absurd (not_lost ms h)

    go : (b : Bool) → is_among (spot_mark ∷ []) m.mark ≡ b → (accepted BehindSpot ms ≡ true → (c : List Marked) × (more : List (List Marked)) × (segments (spot_mark ∷ []) ms ≡ c ∷ more))
        → (c : List Marked) × (more : List (List Marked)) × ((if b then (m ∷ up_to (spot_mark ∷ []) ms) ∷ segments (spot_mark ∷ []) ms else segments (spot_mark ∷ []) ms) ≡ c ∷ more)
    go true e later = (m ∷ up_to (spot_mark ∷ []) ms, segments (spot_mark ∷ []) ms, refl)
    go false e later = later (other (is_among (spot_mark ∷ []) m.mark) _ e walks)

spot_from : (s : Situation) (ms : List Marked) → is_spot s ≡ false → accepted (move s spot_mark) ms ≡ true → accepted BehindSpot ms ≡ true
spot_from Quiet ms other h = h
spot_from BehindOpening ms other h = absurd (not_lost ms h)
spot_from BehindOwner ms other h = absurd (not_lost ms h)
spot_from BehindDot ms other h = absurd (not_lost ms h)
spot_from BehindSpot ms other h = absurd cc
spot_from BehindFeature ms other h = absurd (not_lost ms h)
spot_from Lost ms other h = absurd (not_lost ms h)

either : (b : Bool) (x y : Situation) → is_spot x ≡ false → is_spot y ≡ false → is_spot (if b then x else y) ≡ false
either true x y g h = g
either false x y g h = h

no_spot : (s : Situation) (k : ℕ) → is_among (spot_mark ∷ []) k ≡ false → is_spot s ≡ false → is_spot (move s k) ≡ false
no_spot Quiet k none other =
    let last = if is_among (feature_mark ∷ []) k then BehindFeature else Quiet in
    let behind = subst (λ (z : Bool). is_spot (if z then BehindSpot else last) ≡ false) (sym none) (either (is_among (feature_mark ∷ []) k) BehindFeature Quiet refl refl) in
    let spot = if is_among (spot_mark ∷ []) k then BehindSpot else last in
    let owner = if is_among (owner_mark ∷ []) k then BehindOwner else spot in
    either (opens k) BehindOpening owner refl (either (is_among (owner_mark ∷ []) k) BehindOwner spot refl behind)
no_spot BehindOpening k none other = either (is_among (part_mark ∷ []) k) Quiet Lost refl refl
no_spot BehindOwner k none other = either (is_among (unmarked ∷ []) k) BehindDot Lost refl refl
no_spot BehindDot k none other = either (is_among (declared_mark ∷ []) k) Quiet Lost refl refl
no_spot BehindSpot k none other = absurd cc
no_spot BehindFeature k none other =
    let lost = is_among (part_mark ∷ owner_mark ∷ spot_mark ∷ []) k in
    let last = if lost then Lost else BehindFeature in
    let calm = is_among (data_mark ∷ item_mark ∷ end_mark ∷ []) k in
    either (opens k) BehindOpening (if calm then Quiet else last) refl (either calm Quiet last refl (either lost Lost BehindFeature refl refl))
no_spot Lost k none other = refl

two_spots : (ms : List Marked) (s : Situation) → is_spot s ≡ false → accepted s ms ≡ true → has_mark spot_mark ms ≡ true → (a b : List Marked) × (more : List (List Marked)) × (segments (spot_mark ∷ []) ms ≡ a ∷ b ∷ more)
two_spots [] s other walks has = absurd cc
two_spots (m ∷ ms) s other walks has = go (is_among (spot_mark ∷ []) m.mark) refl (λ none. two_spots ms (move s m.mark) (no_spot s m.mark none other) walks)
  where
    go : (b : Bool) → is_among (spot_mark ∷ []) m.mark ≡ b
        → (is_among (spot_mark ∷ []) m.mark ≡ false → has_mark spot_mark ms ≡ true → (a c : List Marked) × (more : List (List Marked)) × (segments (spot_mark ∷ []) ms ≡ a ∷ c ∷ more))
        → (a c : List Marked) × (more : List (List Marked)) × ((if b then (m ∷ up_to (spot_mark ∷ []) ms) ∷ segments (spot_mark ∷ []) ms else segments (spot_mark ∷ []) ms) ≡ a ∷ c ∷ more)
    go true e later =
        let here = only spot_mark m.mark e in
        let next = one_spot ms (spot_from s ms other (subst (λ (z : ℕ). accepted (move s z) ms ≡ true) here walks)) in
        (m ∷ up_to (spot_mark ∷ []) ms, next.0, next.1, ap (λ (z : List (List Marked)). (m ∷ up_to (spot_mark ∷ []) ms) ∷ z) next.2)
    go false e later = later e (elim (or_cases (m.mark == spot_mark) (has_mark spot_mark ms) has) [
      | inl one ↦ absurd (both_ways (is_among (spot_mark ∷ []) m.mark) e (or_left (spot_mark == m.mark) false (eq-eqb spot_mark m.mark (sym (eqb-true m.mark spot_mark one)))))
      | inr behind ↦ behind
    ])

calm_no_spot : (s : Situation) → is_calm s ≡ true → is_spot s ≡ false
calm_no_spot Quiet h = refl
calm_no_spot BehindFeature h = refl
calm_no_spot BehindOpening h = absurd cc
calm_no_spot BehindOwner h = absurd cc
calm_no_spot BehindDot h = absurd cc
calm_no_spot BehindSpot h = absurd cc
calm_no_spot Lost h = absurd cc

wire_plain : (bytes : List ℕ) (head : Marked) (rest : List Marked) → Walked (is_fit bytes) (connection_mark ∷ []) head rest → has_mark spot_mark (head ∷ rest) ≡ true → is_printable_wire (wire_of bytes (head ∷ rest)) ≡ true
wire_plain bytes head rest w has =
    let ms = head ∷ rest in
    let spots = segments (spot_mark ∷ []) ms in
    let two = two_spots ms w.before (calm_no_spot w.before w.calm) w.walks has in
    let each = each_segment (is_fit bytes) (spot_mark ∷ []) (λ p. is_printable_end (end_of bytes p)) (end_plain bytes) ms w.segment.all in
    let both = subst (λ (z : List (List Marked)). list_all (λ p. is_printable_end (end_of bytes p)) z ≡ true) two.3 each in
    let one = and_parts (is_printable_end (end_of bytes two.0)) (is_printable_end (end_of bytes two.1) && list_all (λ p. is_printable_end (end_of bytes p)) two.2) both in
    let other = and_parts (is_printable_end (end_of bytes two.1)) (list_all (λ p. is_printable_end (end_of bytes p)) two.2) one.1 in
    let ends = subst (λ (z : List (List Marked)). (is_printable_end (end_of bytes (part_at z 0)) && is_printable_end (end_of bytes (part_at z 1))) ≡ true) (sym two.3)
    (and_from (is_printable_end (end_of bytes two.0)) (is_printable_end (end_of bytes two.1)) one.0 other.0) in
    and_from (is_printable_ident (ident_under bytes connection_mark ms)) (is_printable_end (end_of bytes (part_at spots 0)) && is_printable_end (end_of bytes (part_at spots 1)))
    (first_plain bytes connection_mark ms refl w.segment.all (head_has connection_mark head rest w.segment.begins)) ends

pub wires_plain : (bytes : List ℕ) (ms : List Marked) (s : Situation) → accepted s ms ≡ true → list_all (is_fit bytes) ms ≡ true → list_all is_printable_wire (wires_of bytes ms) ≡ true
wires_plain bytes ms s walks all =
    kept_pass is_printable_wire (wire_of bytes) (has_mark spot_mark) (segments (connection_mark ∷ []) ms)
    (each_walked (is_fit bytes) (connection_mark ∷ []) (λ p. not (has_mark spot_mark p) || is_printable_wire (wire_of bytes p)) refl
    (λ head rest w. provided (has_mark spot_mark (head ∷ rest)) (is_printable_wire (wire_of bytes (head ∷ rest))) (wire_plain bytes head rest w)) ms s walks all)
