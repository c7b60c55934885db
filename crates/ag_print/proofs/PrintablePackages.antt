-- The packages of a file are printable.
use Rattle.std.proofs.Common.{◌≡◌, ℕ, Bool, true, false, ◌==◌, ◌&&◌, ◌||◌, not, if◌then◌else◌, List, [], ◌∷◌, map, Some, None, refl, sym, ap, subst, ◌∙◌, inl, inr}
use Rattle.std.specs.List.{list_all, filter}
use Rattle.std.proofs.lemmas.Bool.{and_parts, and_from, or_cases, or_left, or_right, eqb-true, eq-eqb}
use Rattle.std.proofs.lemmas.List.Folds.{list_all-map}
use Rattle.ag_lex.specs.declared.token.Token.{Token}
use Rattle.ag_lex.specs.Answers.{AreKept}
use Rattle.ag_lex.specs.declared.token.Language.TheVariants.{Aadl}
use Rattle.ag_aadl.specs.declared.marked.Marked.{Marked}
use Rattle.ag_aadl.specs.declared.packages.Item.TheVariants as item
use Rattle.ag_aadl.specs.declared.packages.Package.{Package}
use Rattle.ag_aadl.specs.Files.{IsFile}
use Rattle.ag_aadl.specs.Marked.{marked, has_mark, is_among, up_to, segments}
use Rattle.ag_aadl.specs.Marks.{unmarked, package_mark, part_mark, import_mark, item_mark, owner_mark, declared_mark, feature_mark, direction_mark, spot_mark}
use Rattle.ag_aadl.specs.Meaning.{ident_under, name_of, is_agree, annex_of, frame_of, body_of, item_of, begins_with, parts_of_package, part_at, package_of, packages_of, port_of, ports_of, subs_of, wires_of}
use Rattle.ag_aadl.specs.Words.{terminals_of}
use Rattle.ag_print.specs.Printable.{is_printable_ident, is_printable_package_name, is_printable_port, is_printable_sub, is_printable_wire, is_printable_item, is_printable_package, are_printable}
use Rattle.ag_print.proofs.Fitting.{is_fit, text_fits}
use Rattle.ag_print.proofs.PlainTokens.{plain_tokens}
use Rattle.ag_print.proofs.PrintableNames.{first_plain, pname_plain}
use Rattle.ag_print.proofs.PrintableParts.{part_marks, ports_plain, subs_plain, wires_plain}
use Rattle.ag_print.proofs.Segmented.{only, provided, kept_pass, passes_if_some, kept_map_pass, not_lost, all_both, is_free, Walked, each_walked, up_to_accepted, all_up_to}
use Rattle.ag_print.proofs.Situations.{Situation, Quiet, BehindOpening, BehindOwner, BehindDot, BehindSpot, BehindFeature, Lost, opens, move, is_calm, accepted, text_walks}

-- ---- behind the type's name of an implementation its own name comes

-- where a mark is another one a token is lost
only_there : (k j : ℕ) (there : Situation) (ms : List Marked) → accepted (if is_among (k ∷ []) j then there else Lost) ms ≡ true → (j ≡ k) × (accepted there ms ≡ true)
only_there k j there ms walks = go (is_among (k ∷ []) j) refl walks
  where
    go : (b : Bool) → is_among (k ∷ []) j ≡ b → accepted (if b then there else Lost) ms ≡ true → (j ≡ k) × (accepted there ms ≡ true)
    go true e h = (only k j e, h)
    go false e h = absurd (not_lost ms h)

dotted : (ms : List Marked) → accepted BehindDot ms ≡ true → has_mark declared_mark ms ≡ true
dotted [] walks = absurd cc
dotted (m ∷ ms) walks = or_left (m.mark == declared_mark) (has_mark declared_mark ms) (eq-eqb m.mark declared_mark (only_there declared_mark m.mark Quiet ms walks).0)

owned : (ms : List Marked) → accepted BehindOwner ms ≡ true → has_mark declared_mark ms ≡ true
owned [] walks = absurd cc
owned (m ∷ ms) walks = or_right (m.mark == declared_mark) (has_mark declared_mark ms) (dotted ms (only_there unmarked m.mark BehindDot ms walks).1)

owner_from : (s : Situation) (ms : List Marked) → accepted (move s owner_mark) ms ≡ true → accepted BehindOwner ms ≡ true
owner_from Quiet ms h = h
owner_from BehindOpening ms h = absurd (not_lost ms h)
owner_from BehindOwner ms h = absurd (not_lost ms h)
owner_from BehindDot ms h = absurd (not_lost ms h)
owner_from BehindSpot ms h = absurd (not_lost ms h)
owner_from BehindFeature ms h = absurd (not_lost ms h)
owner_from Lost ms h = absurd (not_lost ms h)

declared_behind : (ms : List Marked) (s : Situation) → accepted s ms ≡ true → has_mark owner_mark ms ≡ true → has_mark declared_mark ms ≡ true
declared_behind [] s walks has = absurd cc
declared_behind (m ∷ ms) s walks has =
    or_right (m.mark == declared_mark) (has_mark declared_mark ms) (elim (or_cases (m.mark == owner_mark) (has_mark owner_mark ms) has) [
      | inl here ↦ owned ms (owner_from s ms (subst (λ (z : ℕ). accepted (move s z) ms ≡ true) (eqb-true m.mark owner_mark here) walks))
      | inr later ↦ declared_behind ms (move s m.mark) walks later
    ])

-- ---- items

frame_plain : (bytes : List ℕ) (head : Marked) (rest : List Marked) → Walked (is_fit bytes) part_marks head rest → head.mark ≡ item_mark → has_mark declared_mark (head ∷ rest) ≡ true → is_printable_item (item.Frame (frame_of bytes (head ∷ rest))) ≡ true
frame_plain bytes head rest w is_item has =
    let fit = (and_parts (is_fit bytes head) (list_all (is_fit bytes) rest) w.segment.all).1 in
    let inner = all_both (is_fit bytes) (is_free part_marks) rest fit w.segment.free in
    let ports = ports_plain bytes rest (move w.before head.mark) w.walks inner in
    let same : ports_of bytes (head ∷ rest) ≡ ports_of bytes rest = no_port head.mark is_item in
    and_from (is_printable_ident (ident_under bytes declared_mark (head ∷ rest))) (list_all is_printable_port (ports_of bytes (head ∷ rest))) (first_plain bytes declared_mark (head ∷ rest) refl w.segment.all has)
    (subst (λ z. list_all is_printable_port z ≡ true) (sym same) ports)
  where
    no_port : (k : ℕ) → k ≡ item_mark
        → map (port_of bytes) (filter (has_mark direction_mark) (if is_among (feature_mark ∷ []) k then (head ∷ up_to (feature_mark ∷ []) rest) ∷ segments (feature_mark ∷ []) rest else segments (feature_mark ∷ []) rest)) ≡ ports_of bytes rest
    no_port k e = ap (λ (z : ℕ). map (port_of bytes) (filter (has_mark direction_mark) (if is_among (feature_mark ∷ []) z then (head ∷ up_to (feature_mark ∷ []) rest) ∷ segments (feature_mark ∷ []) rest else segments (feature_mark ∷ []) rest))) e

body_plain : (bytes : List ℕ) (head : Marked) (rest : List Marked) → Walked (is_fit bytes) part_marks head rest → has_mark owner_mark (head ∷ rest) ≡ true → is_printable_item (item.Body (body_of bytes (head ∷ rest))) ≡ true
body_plain bytes head rest w has =
    let ms = head ∷ rest in
    let declared = declared_behind ms w.before w.walks has in
    let subs = list_all is_printable_sub (subs_of bytes ms) in
    let wires = list_all is_printable_wire (wires_of bytes ms) in
    and_from (is_printable_ident (ident_under bytes owner_mark ms)) (is_printable_ident (ident_under bytes declared_mark ms) && (subs && wires)) (first_plain bytes owner_mark ms refl w.segment.all has)
    (and_from (is_printable_ident (ident_under bytes declared_mark ms)) (subs && wires) (first_plain bytes declared_mark ms refl w.segment.all declared)
    (and_from subs wires (subs_plain bytes ms w.segment.all) (wires_plain bytes ms w.before w.walks w.segment.all)))

item_plain : (bytes : List ℕ) (head : Marked) (rest : List Marked) → Walked (is_fit bytes) part_marks head rest → head.mark ≡ item_mark → passes_if_some is_printable_item (item_of bytes (head ∷ rest)) ≡ true
item_plain bytes head rest w is_item = go (has_mark owner_mark (head ∷ rest)) (has_mark declared_mark (head ∷ rest)) (is_agree bytes (head ∷ rest)) refl refl
  where
    go : (b c d : Bool) → has_mark owner_mark (head ∷ rest) ≡ b → has_mark declared_mark (head ∷ rest) ≡ c
        → passes_if_some is_printable_item (if b then Some (item.Body (body_of bytes (head ∷ rest))) else (if c then Some (item.Frame (frame_of bytes (head ∷ rest))) else (if d then Some (item.Library (annex_of (head ∷ rest))) else None))) ≡ true
    go true c d e f = body_plain bytes head rest w e
    go false true d e f = frame_plain bytes head rest w is_item f
    go false false true e f = refl
    go false false false e f = refl

-- ---- packages

open_from : (s : Situation) (k : ℕ) → is_calm s ≡ true → opens k ≡ true → move s k ≡ BehindOpening
open_from Quiet k calm h = ap (λ (z : Bool). if z then BehindOpening else (if is_among (owner_mark ∷ []) k then BehindOwner else (if is_among (spot_mark ∷ []) k then BehindSpot else (if is_among (feature_mark ∷ []) k then BehindFeature else Quiet)))) h
open_from BehindFeature k calm h = by_open (opens k) _ h
  where
    by_open : (b : Bool) (x : Situation) → b ≡ true → (if b then BehindOpening else x) ≡ BehindOpening
    by_open true x e = refl
    by_open false x e = absurd cc
open_from BehindOpening k calm h = absurd cc
open_from BehindOwner k calm h = absurd cc
open_from BehindDot k calm h = absurd cc
open_from BehindSpot k calm h = absurd cc
open_from Lost k calm h = absurd cc

part_behind : (ms : List Marked) → accepted BehindOpening ms ≡ true → has_mark part_mark ms ≡ true
part_behind [] walks = absurd cc
part_behind (m ∷ ms) walks = or_left (m.mark == part_mark) (has_mark part_mark ms) (eq-eqb m.mark part_mark (only_there part_mark m.mark Quiet ms walks).0)

-- a name stands behind a word that opens one
name_plain : (bytes : List ℕ) (head : Marked) (rest : List Marked) (s : Situation) → is_calm s ≡ true → opens head.mark ≡ true → accepted s (head ∷ rest) ≡ true → list_all (is_fit bytes) (head ∷ rest) ≡ true
    → is_printable_package_name (name_of bytes (head ∷ rest)) ≡ true
name_plain bytes head rest s calm opened walks fit =
    let there = subst (λ (z : Situation). accepted z rest ≡ true) (open_from s head.mark calm opened) walks in
    pname_plain bytes (head ∷ rest) fit (or_right (head.mark == part_mark) (has_mark part_mark rest) (part_behind rest there))

-- the first part of a package begins with its first token
first_piece : (head : Marked) (rest : List Marked) → head.mark ≡ package_mark → part_at (parts_of_package (head ∷ rest)) 0 ≡ head ∷ up_to part_marks rest
first_piece head rest e = ap (λ (z : ℕ). part_at (if is_among part_marks z then (head ∷ up_to part_marks rest) ∷ segments part_marks rest else segments part_marks rest) 0) e

import_plain : (bytes : List ℕ) (head : Marked) (rest : List Marked) → Walked (is_fit bytes) part_marks head rest → (not (begins_with import_mark (head ∷ rest)) || is_printable_package_name (name_of bytes (head ∷ rest))) ≡ true
import_plain bytes head rest w =
    provided (head.mark == import_mark) (is_printable_package_name (name_of bytes (head ∷ rest))) (λ e.
    let opened = subst (λ (z : ℕ). opens z ≡ true) (sym (eqb-true head.mark import_mark e)) refl in
    name_plain bytes head rest w.before w.calm opened w.walks w.segment.all)

item_if : (bytes : List ℕ) (head : Marked) (rest : List Marked) → Walked (is_fit bytes) part_marks head rest → (not (begins_with item_mark (head ∷ rest)) || passes_if_some is_printable_item (item_of bytes (head ∷ rest))) ≡ true
item_if bytes head rest w = provided (head.mark == item_mark) (passes_if_some is_printable_item (item_of bytes (head ∷ rest))) (λ e. item_plain bytes head rest w (eqb-true head.mark item_mark e))

package_plain : (bytes : List ℕ) (head : Marked) (rest : List Marked) → Walked (is_fit bytes) (package_mark ∷ []) head rest → is_printable_package (package_of bytes (head ∷ rest)) ≡ true
package_plain bytes head rest w =
    let ms = head ∷ rest in
    let parts = parts_of_package ms in
    let is_package = only package_mark head.mark w.segment.begins in
    let opened = subst (λ (z : ℕ). opens z ≡ true) (sym is_package) refl in
    let fit = and_parts (is_fit bytes head) (list_all (is_fit bytes) rest) w.segment.all in
    let front = and_from (is_fit bytes head) (list_all (is_fit bytes) (up_to part_marks rest)) fit.0 (all_up_to (is_fit bytes) part_marks rest fit.1) in
    let first = name_plain bytes head (up_to part_marks rest) w.before w.calm opened (up_to_accepted part_marks rest (move w.before head.mark) refl w.walks) front in
    let name_is = subst (λ (z : List Marked). is_printable_package_name (name_of bytes z) ≡ true) (sym (first_piece head rest is_package)) first in
    let imports = kept_pass is_printable_package_name (name_of bytes) (begins_with import_mark) parts
    (each_walked (is_fit bytes) part_marks (λ p. not (begins_with import_mark p) || is_printable_package_name (name_of bytes p)) refl (import_plain bytes) ms w.before w.walks w.segment.all) in
    let items = kept_map_pass is_printable_item (item_of bytes) (begins_with item_mark) parts
    (each_walked (is_fit bytes) part_marks (λ p. not (begins_with item_mark p) || passes_if_some is_printable_item (item_of bytes p)) refl (item_if bytes) ms w.before w.walks w.segment.all) in
    let p = package_of bytes ms in
    and_from (is_printable_package_name p.name) (list_all is_printable_package_name p.imports && list_all is_printable_item p.items) name_is (and_from (list_all is_printable_package_name p.imports) (list_all is_printable_item p.items) imports items)

packages_plain : (bytes : List ℕ) (ms : List Marked) → accepted Quiet ms ≡ true → list_all (is_fit bytes) ms ≡ true → list_all is_printable_package (packages_of bytes ms) ≡ true
packages_plain bytes ms walks fit =
    list_all-map is_printable_package (package_of bytes) (segments (package_mark ∷ []) ms)
    ∙ each_walked (is_fit bytes) (package_mark ∷ []) (λ p. is_printable_package (package_of bytes p)) refl (package_plain bytes) ms Quiet walks fit

-- the packages of a file are printable
pub files_are_printable : (file : ℕ) (bytes : List ℕ) (tokens : List Token) (packages : List Package) → AreKept Aadl file [] bytes tokens → IsFile bytes tokens packages → are_printable packages ≡ true
files_are_printable file bytes tokens packages kept read =
    let ms = marked (terminals_of bytes tokens) tokens read.steps in
    let walks = text_walks bytes read.steps tokens read.text in
    let fit = text_fits bytes read.steps tokens read.text (plain_tokens file bytes tokens kept) in
    subst (λ (z : List Package). are_printable z ≡ true) (sym read.told) (packages_plain bytes ms walks fit)
