use Rattle.std.proofs.Common.{◌≡◌, ℕ, Option, None, ap, sym, subst, ◌∙◌}
use Rattle.std.specs.Prelude.{option_and_then, position, slice_get}
use Rattle.ag_terms.specs.declared.names.Ident.{Ident}
use Rattle.ag_terms.specs.Names.{same}
use Rattle.ag_names.specs.Ends.{end_from, port_in, port_under}
use Rattle.ag_names.specs.Found.{own_type, type_named}
use Rattle.ag_names.specs.Keys.{first_at, name_key}
use Rattle.ag_names.specs.Placed.{Type', types}
use Rattle.ag_names.specs.Tables.{Component}
use Rattle.ag_names.proofs.Lookups.{found_type, sub_found}
use Rattle.ag_names.proofs.ends.Component.end_point.Goals as goal

pub returns-in-None : goal.returns-in-None
returns-in-None c =
    let self = c.args.self.now in
    let port = c.as_bytes-port.result.now in
    let all = c.self.inside.index.now in
    let i = c.self.inside.implementation.now in
    let own : option_and_then (slice_get (types self.all)) c.self.inside.own_type ≡ type_named self.all (own_type self.implementation.owner self.implementation.body) =
    subst (λ (s : Component). option_and_then (slice_get (types s.all)) c.self.inside.own_type ≡ type_named s.all (own_type s.implementation.owner s.implementation.body)) c.self.view_is
    (ap (λ (o : Option ℕ). option_and_then (slice_get (types all)) o) c.self.invariant.0 ∙ found_type all (own_type i.owner i.body)) in
    c.port_in.ensures
    ∙ ap (λ (t : Option Type'). port_in None t port) own
    ∙ ap (λ (s : Option Ident). end_from self.all self.implementation s port) (sym c.in-None.is)
    ∙ ap (end_from self.all self.implementation c.args.end.now.sub) c.as_bytes-port.ensures

pub returns-in-Some : goal.returns-in-Some
returns-in-Some c =
    let self = c.args.self.now in
    let port = c.as_bytes-port.result.now in
    let text = c.in-Some.sub.text in
    let found : c.find-at.result ≡ position (λ s. same s.name.text text) self.implementation.body.subs =
    subst (λ (s : Component). c.find-at.result ≡ position (λ t. same t.name.text text) s.implementation.body.subs) c.self.view_is
    (c.find-at.ensures
    ∙ ap (λ k. first_at k c.self.inside.subs) (c.name.ensures ∙ ap (name_key 0) c.as_bytes.ensures)
    ∙ sub_found c.self.inside.implementation.now.body c.self.inside.subs c.self.invariant.1 text) in
    c.port_under.ensures
    ∙ ap (λ (at : Option ℕ). port_under self.all self.implementation at port) found
    ∙ ap (λ (s : Option Ident). end_from self.all self.implementation s port) (sym c.in-Some.is)
    ∙ ap (end_from self.all self.implementation c.args.end.now.sub) c.as_bytes-port.ensures
