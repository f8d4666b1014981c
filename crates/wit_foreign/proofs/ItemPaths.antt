-- Two paths of items are equal by `==` exactly where they are of one owner.
use Rattle.std.proofs.Common.{◌≡◌, ℕ, Bool, true, false, ◌&&◌, List, Option, Some, None, Bor, bytes_eq, refl, sym, ap, ◌∙◌, option_map}
use Rattle.std.proofs.lemmas.Bool.{and_parts}
use Rattle.std.proofs.lemmas.Option.{same_Some}
use Rattle.std.proofs.lemmas.Slice.Eq.{bytes_eq-Decides}
use Rattle.std.specs.Bool.{Decides}
use Rattle.wit_package_types.specs.Passed.wit_arena-Tree.{Name, Place, in_interface, in_world, in_listed, Owner}
use Rattle.wit_lookups.specs.declared.asks.Asked.{Asked}
use Rattle.wit_lookups.specs.declared.asks.Asked.TheVariants.{Interface, World}
use Rattle.wit_foreign.specs.Items.{place_asked}
use Rattle.wit_foreign.specs.ItemView.{path_owner}
use Rattle.wit_foreign.specs.declared.items.ItemPath.{ItemPath}
use Rattle.wit_foreign.specs.contracts.items.ItemPathPartialEq.TheImpl as path_test

abbrev pub Text : Type 0
Text = Bor (List ℕ)

abbrev path : Text → Text → Option Text → Text → Asked → ItemPath
path s p v i a = record { namespace = s; «package» = p; version = v; item = i; asked = a }

abbrev pub version_eq : Option Text → Option Text → Bool
version_eq None None = true
version_eq None (Some w) = false
version_eq (Some v) None = false
version_eq (Some v) (Some w) = bytes_eq v.now w.now

abbrev asked_eq : Asked → Asked → Bool
asked_eq Interface Interface = true
asked_eq Interface World = false
asked_eq World Interface = false
asked_eq World World = true

parts_of_test : (s p : Text) (v : Option Text) (i : Text) (a : Asked) (s2 p2 : Text) (v2 : Option Text) (i2 : Text) (a2 : Asked)
    → (path_test.ghosts).eq (path s p v i a) (path s2 p2 v2 i2 a2) ≡ (bytes_eq s.now s2.now && (bytes_eq p.now p2.now && (version_eq v v2 && (bytes_eq i.now i2.now && asked_eq a a2))))
parts_of_test s p None i Interface s2 p2 None i2 Interface = refl
parts_of_test s p None i Interface s2 p2 None i2 World = refl
parts_of_test s p None i World s2 p2 None i2 Interface = refl
parts_of_test s p None i World s2 p2 None i2 World = refl
parts_of_test s p None i Interface s2 p2 (Some w) i2 Interface = refl
parts_of_test s p None i Interface s2 p2 (Some w) i2 World = refl
parts_of_test s p None i World s2 p2 (Some w) i2 Interface = refl
parts_of_test s p None i World s2 p2 (Some w) i2 World = refl
parts_of_test s p (Some v) i Interface s2 p2 None i2 Interface = refl
parts_of_test s p (Some v) i Interface s2 p2 None i2 World = refl
parts_of_test s p (Some v) i World s2 p2 None i2 Interface = refl
parts_of_test s p (Some v) i World s2 p2 None i2 World = refl
parts_of_test s p (Some v) i Interface s2 p2 (Some w) i2 Interface = refl
parts_of_test s p (Some v) i Interface s2 p2 (Some w) i2 World = refl
parts_of_test s p (Some v) i World s2 p2 (Some w) i2 Interface = refl
parts_of_test s p (Some v) i World s2 p2 (Some w) i2 World = refl

same_path : (s p : Text) (v : Option Text) (i : Text) (a : Asked) (s2 p2 : Text) (v2 : Option Text) (i2 : Text) (a2 : Asked) → s.now ≡ s2.now → p.now ≡ p2.now → option_map (λ (w : Text). w.now) v ≡ option_map (λ (w : Text). w.now) v2
    → i.now ≡ i2.now → a ≡ a2 → path_owner (path s p v i a) ≡ path_owner (path s2 p2 v2 i2 a2)
same_path s p v i a s2 p2 v2 i2 a2 e f g h k = rw (e, f, g, h, k) refl

pub same_version : (v w : Option Text) → version_eq v w ≡ true → option_map (λ (x : Text). x.now) v ≡ option_map (λ (x : Text). x.now) w
same_version None None h = refl
same_version None (Some w) h = absurd cc
same_version (Some v) None h = absurd cc
same_version (Some v) (Some w) h = ap (λ (x : List ℕ). Some x) ((bytes_eq-Decides v.now w.now).0 h)

pub version_same : (v w : Option Text) → option_map (λ (x : Text). x.now) v ≡ option_map (λ (x : Text). x.now) w → version_eq v w ≡ true
version_same None None h = refl
version_same None (Some w) h = absurd cc
version_same (Some v) None h = absurd cc
version_same (Some v) (Some w) h = (bytes_eq-Decides v.now w.now).1 (same_Some v.now w.now h)

same_asked : (a b : Asked) → asked_eq a b ≡ true → a ≡ b
same_asked Interface Interface h = refl
same_asked Interface World h = absurd cc
same_asked World Interface h = absurd cc
same_asked World World h = refl

-- the name of an interface or a world
abbrev name_in : Place → Name
name_in (in_interface x) = x
name_in (in_world x) = x
name_in (in_listed w s x) = x

name_asked : (a : Asked) (x : Name) → name_in (place_asked a x) ≡ x
name_asked Interface x = refl
name_asked World x = refl

asked_same : (a b : Asked) (x y : Name) → place_asked a x ≡ place_asked b y → asked_eq a b ≡ true
asked_same Interface Interface x y h = refl
asked_same Interface World x y h = absurd cc
asked_same World Interface x y h = absurd cc
asked_same World World x y h = refl

pub both : (a b : Bool) → a ≡ true → b ≡ true → (a && b) ≡ true
both a b h k = rw (h, k) refl

-- what `==` says of two paths
unfoldable pub path_eq : ItemPath → ItemPath → Bool
path_eq = (path_test.ghosts).eq

pub path_eq-Decides : (a b : ItemPath) → Decides (path_eq a b) (path_owner a ≡ path_owner b)
unfolding path_eq
path_eq-Decides a b = (
  λ h.
      let e = sym (parts_of_test a.namespace a.«package» a.version a.item a.asked b.namespace b.«package» b.version b.item b.asked) ∙ h in
      let s = and_parts (bytes_eq a.namespace.now b.namespace.now) (bytes_eq a.«package».now b.«package».now && (version_eq a.version b.version && (bytes_eq a.item.now b.item.now && asked_eq a.asked b.asked))) e in
      let p = and_parts (bytes_eq a.«package».now b.«package».now) (version_eq a.version b.version && (bytes_eq a.item.now b.item.now && asked_eq a.asked b.asked)) s.1 in
      let v = and_parts (version_eq a.version b.version) (bytes_eq a.item.now b.item.now && asked_eq a.asked b.asked) p.1 in
      let i = and_parts (bytes_eq a.item.now b.item.now) (asked_eq a.asked b.asked) v.1 in
      same_path a.namespace a.«package» a.version a.item a.asked b.namespace b.«package» b.version b.item b.asked ((bytes_eq-Decides a.namespace.now b.namespace.now).0 s.0) ((bytes_eq-Decides a.«package».now b.«package».now).0 p.0)
      (same_version a.version b.version v.0) ((bytes_eq-Decides a.item.now b.item.now).0 i.0) (same_asked a.asked b.asked i.1),
  λ h.
      let place : place_asked a.asked a.item.now ≡ place_asked b.asked b.item.now = ap (λ (o : Owner). o.place) h in
      parts_of_test a.namespace a.«package» a.version a.item a.asked b.namespace b.«package» b.version b.item b.asked
      ∙ both (bytes_eq a.namespace.now b.namespace.now) (bytes_eq a.«package».now b.«package».now && (version_eq a.version b.version && (bytes_eq a.item.now b.item.now && asked_eq a.asked b.asked))) ((bytes_eq-Decides a.namespace.now b.namespace.now).1 (ap (λ (o : Owner). o.package_text.namespace) h))
      (both (bytes_eq a.«package».now b.«package».now) (version_eq a.version b.version && (bytes_eq a.item.now b.item.now && asked_eq a.asked b.asked)) ((bytes_eq-Decides a.«package».now b.«package».now).1 (ap (λ (o : Owner). o.package_text.name) h))
      (both (version_eq a.version b.version) (bytes_eq a.item.now b.item.now && asked_eq a.asked b.asked) (version_same a.version b.version (ap (λ (o : Owner). o.package_text.version) h))
      (both (bytes_eq a.item.now b.item.now) (asked_eq a.asked b.asked) ((bytes_eq-Decides a.item.now b.item.now).1 (sym (name_asked a.asked a.item.now) ∙ ap name_in place ∙ name_asked b.asked b.item.now)) (asked_same a.asked b.asked a.item.now b.item.now place)))),
)
