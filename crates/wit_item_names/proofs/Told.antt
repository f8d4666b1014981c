-- Texts of interfaces tell what they are of.
use Rattle.std.proofs.Common.{◌≡◌, ℕ, List, ◌∷◌, ◌++◌, Option, Some, None, String, refl, sym, subst, ap, ◌∙◌}
use Rattle.std.proofs.lemmas.Option.{same_Some}
use Rattle.std.specs.Prelude.{slice_get, string_bytes}
use Rattle.std.specs.declared.alloc.Global.{Global}
use Rattle.semver.specs.Identifiers.{version_text}
use Rattle.semver.specs.declared.Version.{Version}
use Rattle.wit_order.specs.Order.{Has}
use Rattle.wit_types.specs.Package.{interface_text, package_text, with_version}
use Rattle.wit_types.specs.declared.interface.Interface.{Interface}
use Rattle.wit_types.specs.declared.world_key.WorldKey.TheVariants as key
use Rattle.wit_types.specs.declared.«package».Package.{Package}
use Rattle.wit_types.specs.declared.«package».PackageName.{PackageName}
use Rattle.wit_names.specs.Names.{named_in, text_at}
use Rattle.wit_labels.specs.Passed.wit_plain_texts-Plain.{IsWithout, IsPlain}
use Rattle.wit_item_names.specs.Apart.{AreNamedApart}
use Rattle.wit_item_names.specs.Used.{HasText}
use Rattle.wit_item_names.proofs.Texts.{split_mark, has_mark}

-- ---- texts

same_versions : (x y : List ℕ) (v w : Option Version) → IsWithout 64 x → IsWithout 64 y → with_version x v ≡ with_version y w → (x ≡ y) × ((z : List ℕ) → with_version z v ≡ with_version z w)
same_versions x y None None a b e = (e, λ z. refl)
same_versions x y None (Some w) a b e = absurd (a (subst (λ (t : List ℕ). Has t 64) (sym e) (has_mark 64 y (version_text w))))
same_versions x y (Some v) None a b e = absurd (b (subst (λ (t : List ℕ). Has t 64) e (has_mark 64 x (version_text v))))
same_versions x y (Some v) (Some w) a b e = (let r = split_mark 64 x y (version_text v) (version_text w) a b e in (r.0, λ z. ap (λ (t : List ℕ). z ++ 64 ∷ t) r.1))

-- ---- interfaces

record AreSame (p q : PackageName) (x y : List ℕ) : Type 0 where
  packages_are : package_text p ≡ package_text q
  names_are : x ≡ y

same_texts : (p q : PackageName) (x y : List ℕ) → IsPlain (string_bytes p.namespace) → IsPlain (string_bytes q.namespace) → IsPlain (string_bytes p.name) → IsPlain (string_bytes q.name) → IsPlain x → IsPlain y
    → interface_text p x ≡ interface_text q y → AreSame p q x y
same_texts p q x y pn qn pp qp xp yp e =
    let first = split_mark 58 (string_bytes p.namespace) (string_bytes q.namespace) (string_bytes p.name ++ 47 ∷ with_version x p.version) (string_bytes q.name ++ 47 ∷ with_version y q.version) pn.colon qn.colon e in
    let second = split_mark 47 (string_bytes p.name) (string_bytes q.name) (with_version x p.version) (with_version y q.version) pp.slash qp.slash first.1 in
    let third = same_versions x y p.version q.version xp.at yp.at second.1 in
    record {
      packages_are =
          ap (λ (t : List ℕ). t ++ 58 ∷ with_version (string_bytes p.name) p.version) first.0 ∙ ap (λ (t : List ℕ). string_bytes q.namespace ++ 58 ∷ with_version t p.version) second.0
          ∙ ap (λ (t : List ℕ). string_bytes q.namespace ++ 58 ∷ t) (third.1 (string_bytes q.name));
      names_are = third.0;
    }

-- it has a package and a name, of which the text is made
record IsNamed (packages : List Package) (d : Interface) (text : List ℕ) : Type 0 where
  place : ℕ
  of : d.«package» ≡ Some place
  its : Package
  there : slice_get packages place ≡ Some its
  name : String Global
  named : d.name ≡ Some name
  is : text ≡ interface_text its.name (string_bytes name)

is_named : (packages : List Package) (d : Interface) (text : List ℕ) (p : Option ℕ) (x : Option (String Global)) → d.«package» ≡ p → d.name ≡ x → Some text ≡ named_in interface_text packages p x → IsNamed packages d text
is_named packages d text None None of named h = absurd cc
is_named packages d text (Some p) None of named h = absurd cc
is_named packages d text None (Some x) of named h = absurd cc
is_named packages d text (Some p) (Some x) of named h = by (slice_get packages p) refl h
  where
    by : (o : Option Package) → slice_get packages p ≡ o → Some text ≡ text_at interface_text o (string_bytes x) → IsNamed packages d text
    by None at e = absurd cc
    by (Some a) at e = record { place = p; of = of; its = a; there = at; name = x; named = named; is = same_Some text (interface_text a.name (string_bytes x)) e }

-- ---- apart

module _ (packages : List Package) (interfaces : List Interface) (apart : AreNamedApart packages interfaces) where
  pub one_interface : (i j : ℕ) (text : List ℕ) → HasText packages interfaces (key.Interface i) text → HasText packages interfaces (key.Interface j) text → i ≡ j
  one_interface i j text (d, at_d, is_d) (e, at_e, is_e) =
      let x = is_named packages d text d.«package» d.name refl refl is_d in
      let y = is_named packages e text e.«package» e.name refl refl is_e in
      let same = same_texts x.its.name y.its.name (string_bytes x.name) (string_bytes y.name) (apart.namespaces x.place x.its x.there) (apart.namespaces y.place y.its y.there) (apart.names x.place x.its x.there)
      (apart.names y.place y.its y.there) (apart.interface_names i d x.name at_d x.named) (apart.interface_names j e y.name at_e y.named) (sym x.is ∙ y.is) in
      let place : x.place ≡ y.place = apart.packages_apart x.place y.place x.its y.its x.there y.there same.packages_are in
      apart.interfaces_apart i j y.place d e x.name y.name at_d at_e (x.of ∙ ap (λ (p : ℕ). Some p) place) y.of x.named y.named same.names_are

  -- a plain name isn't one
  pub not_plain : (i : ℕ) (text : List ℕ) → HasText packages interfaces (key.Interface i) text → IsPlain text → ⊥
  not_plain i text (d, at, is) plain =
      let x = is_named packages d text d.«package» d.name refl refl is in
      plain.colon (subst (λ (t : List ℕ). Has t 58) (sym x.is) (has_mark 58 (string_bytes x.its.name.namespace) (string_bytes x.its.name.name ++ 47 ∷ with_version (string_bytes x.name) x.its.name.version)))
