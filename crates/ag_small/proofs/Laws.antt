-- What is read is exactly what the grammar and the rules have.
use Rattle.std.proofs.Common.{◌≡◌, ℕ, ◌+◌, ◌≤◌, true, ◌&&◌, cond, leb, List, [], ◌∷◌, ◌++◌, length, Some, None, Result, Ok, Err, refl, sym, subst, ◌∙◌, arith}
use Rattle.std.specs.Prelude.{codes, is_some, IfOk}
use Rattle.std.specs.List.{list_all, flat_map}
use Rattle.std.proofs.lemmas.Bool.{and_parts, leb-true, le-leb}
use Rattle.ag_small.specs.declared.package.Package.{Package}
use Rattle.ag_small.specs.declared.package.Port.{Port}
use Rattle.ag_small.specs.declared.package.ReadFault.{ReadFault}
use Rattle.ag_small.specs.declared.package.ReadFault.TheVariants as fault
use Rattle.ag_small.specs.Characters.{is_space}
use Rattle.ag_small.specs.Grammar.{Terminal, Fixed, Name, Stands, Spells, fixed, head_text, annex_words_at_head, middle_text, end_texts, port_text, claim_text, assign_text, package_text}
use Rattle.ag_small.specs.Rules.{ports_differ, names_port, all_names, all_follow, IsWellFormed}
use Rattle.ag_small.specs.Reads.{Reads, IsReadUnlessMemory}
use Rattle.ag_small.specs.Reading.{◌>>=◌, Gives, fixed_at, all_fixed_at, name_at, port_at, claim_at, assign_at, items_at, head_at, middle_at, is_well_formed, package_at, read_of}
use Rattle.ag_small.proofs.Tools.{bind_some, guard_some, some_is}
use Rattle.ag_small.proofs.Terminals.{visible, letter_visible, name_parts, fixed_stands, fixed_found, name_stands, name_found}
use Rattle.ag_small.proofs.Tokens.{port_tokens, claims_tokens, assigns_tokens}
use Rattle.ag_small.proofs.Spelled.{spells_joined, spells_split, all_fixed_spell, all_fixed_found}
use Rattle.ag_small.proofs.Parts.{port_form, claim_form, assign_form, port_item, claim_item, assign_item, items_spell, items_found, port_apart, claim_apart, assign_apart}

abbrev opening : List (List ℕ)
opening = codes "public" ∷ codes "with" ∷ codes "Base_Types" ∷ codes ";" ∷ codes "system" ∷ []

head_spells : (b : List ℕ) (x : List ℕ × List ℕ × List ℕ) → head_at b ≡ Some x → Spells (head_text x.0 x.1) b x.2
unfolding head_at
head_spells b x e =
    let k = bind_some (fixed_at (codes "package") b) (λ start. name_at start >>= λ name. all_fixed_at opening name.1 >>= λ middle. name_at middle >>= λ frame. fixed_at (codes "features") frame.1 >>= λ end. Some (name.0, frame.0, end)) x e in
    let n = bind_some (name_at k.0) (λ name. all_fixed_at opening name.1 >>= λ middle. name_at middle >>= λ frame. fixed_at (codes "features") frame.1 >>= λ end. Some (name.0, frame.0, end)) x k.2 in
    let m = bind_some (all_fixed_at opening n.0.1) (λ middle. name_at middle >>= λ frame. fixed_at (codes "features") frame.1 >>= λ end. Some (n.0.0, frame.0, end)) x n.2 in
    let f = bind_some (name_at m.0) (λ frame. fixed_at (codes "features") frame.1 >>= λ end. Some (n.0.0, frame.0, end)) x m.2 in
    let t = bind_some (fixed_at (codes "features") f.0.1) (λ end. Some (n.0.0, f.0.0, end)) x f.2 in
    let made : List ℕ × List ℕ × List ℕ = (n.0.0, f.0.0, t.0) in
    let tail : Spells (Name f.0.0 ∷ Fixed (codes "features") ∷ []) m.0 t.0 = (f.0.1, name_stands m.0 f.0 f.1, (t.0, fixed_stands (codes "features") f.0.1 t.0 t.1, refl)) in
    let middle = spells_joined (fixed opening) (Name f.0.0 ∷ Fixed (codes "features") ∷ []) n.0.1 m.0 t.0 (all_fixed_spell opening n.0.1 m.0 m.1) tail in
    subst (λ (w : List ℕ × List ℕ × List ℕ). Spells (head_text w.0 w.1) b w.2) (some_is made x t.2)
    (k.0, fixed_stands (codes "package") b k.0 k.1, (n.0.1, name_stands k.0 n.0 n.1, middle))

stands_at : (t : Terminal) (b m r : List ℕ) → m ≡ r → Stands t b m → Stands t b r
stands_at t b m r e s = subst (λ (x : List ℕ). Stands t b x) e s

head_found : (name frame b r : List ℕ) → Spells (head_text name frame) b r → head_at b ≡ Some (name, frame, r)
unfolding head_at
head_found name frame b r s =
    let n = s.2 in
    let m = spells_split (fixed opening) (Name frame ∷ Fixed (codes "features") ∷ []) n.0 r n.2 in
    let f = m.2 in
    let t = f.2 in
    rw (fixed_found (codes "package") b s.0 refl s.1, name_found name s.0 n.0 n.1, all_fixed_found opening n.0 m.0 refl m.1, name_found frame m.0 f.0 f.1, fixed_found (codes "features") f.0 r refl (stands_at (Fixed (codes "features")) f.0 t.0 r t.2 t.1)) refl

visible_name : (n b r : List ℕ) → Stands (Name n) b r → visible n ≡ true
visible_name n b r s = letter_visible n (name_parts n s.spelled.1).letter

-- the names of a head begin with letters
head_visible : (name frame b r : List ℕ) → Spells (head_text name frame) b r → (visible name ≡ true) × (visible frame ≡ true)
head_visible name frame b r s =
    let n = s.2 in
    let m = spells_split (fixed opening) (Name frame ∷ Fixed (codes "features") ∷ []) n.0 r n.2 in
    (visible_name name s.0 n.0 n.1, visible_name frame m.0 m.2.0 m.2.1)

abbrev closing : List ℕ → List (List ℕ)
closing frame = codes "**}" ∷ codes ";" ∷ codes "end" ∷ frame ∷ codes ";" ∷ codes "system" ∷ codes "implementation" ∷ frame ∷ codes "." ∷ []

middle_spells : (frame b : List ℕ) (x : List ℕ × List ℕ) → middle_at frame b ≡ Some x → Spells (middle_text frame x.0) b x.1
unfolding middle_at
middle_spells frame b x e =
    let k = bind_some (all_fixed_at (closing frame) b) (λ start. name_at start >>= λ body. all_fixed_at annex_words_at_head body.1 >>= λ end. Some (body.0, end)) x e in
    let n = bind_some (name_at k.0) (λ body. all_fixed_at annex_words_at_head body.1 >>= λ end. Some (body.0, end)) x k.2 in
    let t = bind_some (all_fixed_at annex_words_at_head n.0.1) (λ end. Some (n.0.0, end)) x n.2 in
    let made : List ℕ × List ℕ = (n.0.0, t.0) in
    let tail : Spells (Name n.0.0 ∷ fixed annex_words_at_head) k.0 t.0 = (n.0.1, name_stands k.0 n.0 n.1, all_fixed_spell annex_words_at_head n.0.1 t.0 t.1) in
    subst (λ (w : List ℕ × List ℕ). Spells (middle_text frame w.0) b w.1) (some_is made x t.2)
    (spells_joined (fixed (closing frame)) (Name n.0.0 ∷ fixed annex_words_at_head) b k.0 t.0 (all_fixed_spell (closing frame) b k.0 k.1) tail)

middle_found : (frame body b r : List ℕ) → visible frame ≡ true → Spells (middle_text frame body) b r → middle_at frame b ≡ Some (body, r)
unfolding middle_at
middle_found frame body b r v s =
    let k = spells_split (fixed (closing frame)) (Name body ∷ fixed annex_words_at_head) b r s in
    let n = k.2 in
    let seen : list_all visible (closing frame) ≡ true = rw v refl in
    rw (all_fixed_found (closing frame) b k.0 seen k.1, name_found body k.0 n.0 n.1, all_fixed_found annex_words_at_head n.0 r refl n.2) refl

middle_visible : (frame body b r : List ℕ) → Spells (middle_text frame body) b r → visible body ≡ true
middle_visible frame body b r s =
    let k = spells_split (fixed (closing frame)) (Name body ∷ fixed annex_words_at_head) b r s in
    visible_name body k.0 k.2.0 k.2.1

-- ---- the whole text

abbrev after_assigns : Package → List Terminal
after_assigns p = fixed (end_texts p.name p.frame p.body)

abbrev after_middle : Package → List Terminal
after_middle p = flat_map assign_text p.assigns ++ after_assigns p

abbrev after_claims : Package → List Terminal
after_claims p = middle_text p.frame p.body ++ after_middle p

abbrev after_annex : Package → List Terminal
after_annex p = flat_map claim_text p.claims ++ after_claims p

abbrev after_ports : Package → List Terminal
after_ports p = fixed annex_words_at_head ++ after_annex p

abbrev after_head : Package → List Terminal
after_head p = flat_map port_text p.ports ++ after_ports p

record IsSpelled (b : List ℕ) (p : Package) : Type 0 where
  end : List ℕ
  spelled : Spells (package_text p) b end
  white : list_all is_space end ≡ true
  few_ports : length p.ports ≤ 12
  claims : list_all claim_form p.claims ≡ true
  assigns : list_all assign_form p.assigns ≡ true

package_spells : (b : List ℕ) (p : Package) → package_at b ≡ Some p → IsSpelled b p
unfolding package_at
package_spells b p e =
    let h = bind_some (head_at b) _ p e in
    let q = bind_some (items_at port_at (codes "annex") 12 h.0.2) _ p h.2 in
    let a = bind_some (all_fixed_at annex_words_at_head q.0.1) _ p q.2 in
    let c = bind_some (items_at claim_at (codes "**}") 200 a.0) _ p a.2 in
    let m = bind_some (middle_at h.0.1 c.0.1) _ p c.2 in
    let t = bind_some (items_at assign_at (codes "**}") 200 m.0.1) _ p m.2 in
    let z = bind_some (all_fixed_at (end_texts h.0.0 h.0.1 m.0.0) t.0.1) _ p t.2 in
    let made : Package = record { name = h.0.0; frame = h.0.1; body = m.0.0; ports = q.0.0; claims = c.0.0; assigns = t.0.0 } in
    let k = guard_some (list_all is_space z.0) made p z.2 in
    let few_ports = items_spell port_at port_text port_form port_item (codes "annex") 12 h.0.2 q.0 q.1 in
    let few_claims = items_spell claim_at claim_text claim_form claim_item (codes "**}") 200 a.0 c.0 c.1 in
    let few_assigns = items_spell assign_at assign_text assign_form assign_item (codes "**}") 200 m.0.1 t.0 t.1 in
    let s5 = spells_joined (flat_map assign_text t.0.0) (after_assigns made) m.0.1 t.0.1 z.0 few_assigns.spelled (all_fixed_spell (end_texts h.0.0 h.0.1 m.0.0) t.0.1 z.0 z.1) in
    let s4 = spells_joined (middle_text h.0.1 m.0.0) (after_middle made) c.0.1 m.0.1 z.0 (middle_spells h.0.1 c.0.1 m.0 m.1) s5 in
    let s3 = spells_joined (flat_map claim_text c.0.0) (after_claims made) a.0 c.0.1 z.0 few_claims.spelled s4 in
    let s2 = spells_joined (fixed annex_words_at_head) (after_annex made) q.0.1 a.0 z.0 (all_fixed_spell annex_words_at_head q.0.1 a.0 a.1) s3 in
    let s1 = spells_joined (flat_map port_text q.0.0) (after_ports made) h.0.2 q.0.1 z.0 few_ports.spelled s2 in
    let s0 = spells_joined (head_text h.0.0 h.0.1) (after_head made) b h.0.2 z.0 (head_spells b h.0 h.1) s1 in
    subst (λ (r : Package). IsSpelled b r) k.1 (record {
      end = z.0;
      spelled = s0;
      white = k.0;
      few_ports = few_ports.few;
      claims = few_claims.in_form;
      assigns = few_assigns.in_form;
    })

all_ports : (ps : List Port) → list_all port_form ps ≡ true
all_ports [] = refl
all_ports (p ∷ ps) = all_ports ps

package_found : (b : List ℕ) (p : Package) → IsSpelled b p → length (flat_map claim_text p.claims) + length (flat_map assign_text p.assigns) ≤ 1000 → package_at b ≡ Some p
unfolding package_at
package_found b p s few =
    let h = spells_split (head_text p.name p.frame) (after_head p) b s.end s.spelled in
    let q = spells_split (flat_map port_text p.ports) (after_ports p) h.0 s.end h.2 in
    let a = spells_split (fixed annex_words_at_head) (after_annex p) q.0 s.end q.2 in
    let c = spells_split (flat_map claim_text p.claims) (after_claims p) a.0 s.end a.2 in
    let m = spells_split (middle_text p.frame p.body) (after_middle p) c.0 s.end c.2 in
    let t = spells_split (flat_map assign_text p.assigns) (after_assigns p) m.0 s.end m.2 in
    let v = head_visible p.name p.frame b h.0 h.1 in
    let vb = middle_visible p.frame p.body c.0 m.0 m.1 in
    let seen : list_all visible (end_texts p.name p.frame p.body) ≡ true = rw (v.0, v.1, vb) refl in
    let annex_here : is_some (fixed_at (codes "annex") q.0) ≡ true = rw (fixed_found (codes "annex") q.0 a.1.0 refl a.1.1) refl in
    let claims_end : is_some (fixed_at (codes "**}") c.0) ≡ true = rw (fixed_found (codes "**}") c.0 m.1.0 refl m.1.1) refl in
    let assigns_end : is_some (fixed_at (codes "**}") t.0) ≡ true = rw (fixed_found (codes "**}") t.0 t.2.0 refl t.2.1) refl in
    let ports = items_found port_at port_text port_form port_item (codes "annex") port_apart p.ports 12 h.0 q.0 s.few_ports (all_ports p.ports) (omega (arith, port_tokens p.ports, s.few_ports)) q.1 annex_here in
    let claims = items_found claim_at claim_text claim_form claim_item (codes "**}") claim_apart p.claims 200 a.0 c.0 (omega (arith, few, claims_tokens p.claims)) s.claims (omega (arith, few)) c.1 claims_end in
    let assigns = items_found assign_at assign_text assign_form assign_item (codes "**}") assign_apart p.assigns 200 m.0 t.0 (omega (arith, few, assigns_tokens p.assigns)) s.assigns (omega (arith, few)) t.1 assigns_end in
    rw (
      head_found p.name p.frame b h.0 h.1,
      ports,
      all_fixed_found annex_words_at_head q.0 a.0 refl a.1,
      claims,
      middle_found p.frame p.body c.0 m.0 v.1 m.1,
      assigns,
      all_fixed_found (end_texts p.name p.frame p.body) t.0 s.end seen t.2,
      s.white,
    ) refl

-- ---- the rules

abbrev tokens : Package → ℕ
tokens p = length (flat_map claim_text p.claims) + length (flat_map assign_text p.assigns)

keeps : (b : List ℕ) (p : Package) → IsSpelled b p → is_well_formed p ≡ true → IsWellFormed p
keeps b p s h =
    let claims_fit = list_all (λ c. all_names (names_port p.ports) c.formula) p.claims in
    let a = and_parts (ports_differ p.ports && claims_fit && all_follow p.ports [] p.assigns) (leb (tokens p) 1000) h in
    let b = and_parts (ports_differ p.ports && claims_fit) (all_follow p.ports [] p.assigns) a.0 in
    let c = and_parts (ports_differ p.ports) claims_fit b.0 in
    record {
      few_ports = s.few_ports;
      different_ports = c.0;
      claims_name_ports = c.1;
      assigns_in_order = b.1;
      claims_in_form = s.claims;
      assigns_in_form = s.assigns;
      few_tokens = leb-true (tokens p) 1000 a.1;
    }

pub few_clauses : (p : Package) → IsWellFormed p → length p.claims + length p.assigns ≤ 200
few_clauses p k = omega (arith, k.few_tokens, claims_tokens p.claims, assigns_tokens p.assigns)

is_kept : (p : Package) → IsWellFormed p → is_well_formed p ≡ true
is_kept p k =
    let few : leb (tokens p) 1000 ≡ true = le-leb (tokens p) 1000 k.few_tokens in
    rw (k.different_ports, k.claims_name_ports, k.assigns_in_order, few) refl

pub reads_spelled : (b : List ℕ) (p : Package) → read_of b ≡ Some p → Reads b p
unfolding read_of
reads_spelled b p e =
    let a = bind_some (package_at b) (λ q. cond (is_well_formed q) (Some q) None) p e in
    let k = guard_some (is_well_formed a.0) a.0 p a.2 in
    let s = package_spells b a.0 a.1 in
    subst (λ (r : Package). Reads b r) k.1 (record { end = s.end; spelled = s.spelled; white = s.white; kept = keeps b a.0 s k.0 })

pub reads_found : (b : List ℕ) (p : Package) → Reads b p → read_of b ≡ Some p
unfolding read_of
reads_found b p r =
    let s : IsSpelled b p = record {
      end = r.end;
      spelled = r.spelled;
      white = r.white;
      few_ports = r.kept.few_ports;
      claims = r.kept.claims_in_form;
      assigns = r.kept.assigns_in_form;
    } in
    rw (package_found b p s r.kept.few_tokens, is_kept p r.kept) refl

-- no bytes spell two packages
pub one_reading_lem : (b : List ℕ) (p q : Package) → Reads b p → Reads b q → p ≡ q
one_reading_lem b p q r s = some_is p q (sym (reads_found b p r) ∙ reads_found b q s)

pub is_read : (b : List ℕ) (r : Result Package ReadFault) → Gives (λ p. p) r (read_of b) → IfOk r (λ p. Reads b p)
is_read b (Ok p) given = reads_spelled b p given
is_read b (Err e) given = tt

pub only_read : (b : List ℕ) (r : Result Package ReadFault) → Gives (λ p. p) r (read_of b) → (p : Package) → Reads b p → IsReadUnlessMemory r p
only_read b (Ok q) given p h = some_is q p (sym given ∙ reads_found b p h)
only_read b (Err fault.NotBuilt) given p h = let found = reads_found b p h in absurd cc
only_read b (Err fault.OutOfMemory) given p h = tt
