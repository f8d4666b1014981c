-- No two interfaces of a package's own have one name.
use Rattle.std.proofs.Common.{◌≡◌, ℕ, ◌+◌, ◌<◌, ◌≤◌, List, inl, inr, length, drop, Some, None, String, map, sym, subst, ap, ◌∙◌, arith}
use Rattle.std.proofs.lemmas.Option.{same_Some, slice_get_within}
use Rattle.std.specs.Prelude.{slice_get, flat_map, option_map, string_bytes}
use Rattle.std.specs.declared.alloc.Global.{Global}
use Rattle.wit_types.specs.declared.interface.Interface.{Interface}
use Rattle.wit_types.specs.declared.«package».UnresolvedPackage.{UnresolvedPackage}
use Rattle.wit_package.specs.Passed.wit_syntax-Ast.{FileTree}
use Rattle.wit_package.specs.Passed.wit_scopes-Scopes.{InterfaceScope}
use Rattle.wit_package.specs.Passed.wit_arena-Tree.{Name}
use Rattle.wit_package.specs.Passed.wit_foreign-Items.{interfaces_in}
use Rattle.wit_package.proofs.Passed.wit_interfaces-Behind.{get_either}
use Rattle.wit_package.specs.Passed.wit_resolved_scopes-Texts.{InterfaceText, interface_text, labelled_texts, interfaces_of, worlds_of, interface_texts}
use Rattle.wit_package.proofs.Passed.wit_readiness-Flat.{in_flat}
use Rattle.wit_package.proofs.Passed.wit_readiness-Labelled.{labelled_given}
use Rattle.wit_graph_parts.specs.Own.{asked, own_parts}
use Rattle.wit_package.specs.Resolved.{IsResolved}
use Rattle.wit_package.specs.Steps.{Resolves}
use Rattle.wit_reach.proofs.Holding.{got}
use Rattle.wit_well_formed.specs.Naming.{InterfacesAreNamedApart}
use Rattle.wit_well_formed.proofs.Belonging.{counted, no_more}
use Rattle.wit_well_formed.proofs.Lists.{get_drop, got_mapped}
use Rattle.wit_well_formed.proofs.Whole.{ready}

module _ (files : List FileTree) (p : UnresolvedPackage) (r : Resolves files p) where
  abbrev s : IsResolved files p
  s = r.resolved

  -- an interface that has a name is one of the text, at the same place
  record IsNamedAt (i : ℕ) (n : Name) : Type 0 where
    scope_is : InterfaceScope
    there : slice_get (interfaces_of s.sorted) i ≡ Some scope_is
    named : scope_is.name.text ≡ n

  text_named : (i : ℕ) (t : InterfaceText) (n : Name) → slice_get (interface_texts s.sorted) i ≡ Some t → t.name ≡ Some n → IsNamedAt i n
  text_named i t n at named = elim (get_either (map interface_text (interfaces_of s.sorted)) (flat_map labelled_texts (worlds_of s.sorted)) i t at) as (λ _. IsNamedAt i n) [
    | inl first ↦
        let o = got_mapped interface_text (interfaces_of s.sorted) i t first in
        record { scope_is = o.0; there = o.1; named = same_Some o.0.name.text n (ap (λ (u : InterfaceText). u.name) o.2 ∙ named) }
    | inr o ↦
        let w = in_flat labelled_texts (worlds_of s.sorted) t (o.0, o.2) in
        let l = labelled_given w.0 t w.2 in
        absurd (let none : None ≡ Some n = sym (ap (λ (u : InterfaceText). u.name) l.is) ∙ named in cc)
  ]

  own_named : (i : ℕ) (d : Interface) (x : String Global) → slice_get (own_parts p).interfaces i ≡ Some d → d.name ≡ Some x → IsNamedAt i (string_bytes x)
  own_named i d x at named =
      let behind = get_drop (asked p).interfaces p.interfaces i d at in
      let so_many : length s.foreign_interfaces ≡ interfaces_in s.items = s.foreign_are.so_many_interfaces in
      let most : interfaces_in s.items ≤ (asked p).interfaces = counted files p r in
      let least : (asked p).interfaces ≤ interfaces_in s.items = no_more files p r in
      elim (get_either s.foreign_interfaces s.own_interfaces ((asked p).interfaces + i) d (subst (λ (ds : List Interface). slice_get ds ((asked p).interfaces + i) ≡ Some d) s.interfaces_are behind)) as (λ _. IsNamedAt i (string_bytes x)) [
        | inl other ↦ absurd (
            let within : (asked p).interfaces + i < length s.foreign_interfaces = slice_get_within s.foreign_interfaces ((asked p).interfaces + i) d other in
            omega (arith, within, so_many, most))
        | inr o ↦
            let place : (asked p).interfaces + i ≡ length s.foreign_interfaces + o.0 = o.1 in
            let here : o.0 ≡ i = omega (arith, place, so_many, most, least) in
            let within : o.0 < length s.own_interfaces = slice_get_within s.own_interfaces o.0 d o.2 in
            let size = s.own_interfaces_are.so_many in
            let t = got (interface_texts s.sorted) o.0 (omega (arith, within, size)) in
            let is = s.own_interfaces_are.each o.0 t.0 d t.1 o.2 in
            subst (λ (j : ℕ). IsNamedAt j (string_bytes x)) here (text_named o.0 t.0 (string_bytes x) t.1 (sym is.is.name ∙ ap (option_map string_bytes) named))
      ]

pub named_apart : InterfacesAreNamedApart
named_apart files p r i j d e x y at_i at_j x_is y_is same =
    let a = own_named files p r i d x at_i x_is in
    let b = own_named files p r j e y at_j y_is in
    (ready files p r).interfaces.apart i j a.scope_is b.scope_is a.there b.there (a.named ∙ same ∙ sym b.named)
