-- Two paths of types are equal by `==` exactly where they are of one name.
use Rattle.std.proofs.Common.{◌≡◌, ℕ, Bool, true, false, ◌&&◌, List, [], Option, Some, None, Bor, bytes_eq, refl, sym, ap, ◌∙◌, option_map}
use Rattle.std.proofs.lemmas.Bool.{and_parts}
use Rattle.std.proofs.lemmas.Option.{same_Some}
use Rattle.std.proofs.lemmas.Slice.Eq.{bytes_eq-Decides}
use Rattle.std.specs.Bool.{Decides}
use Rattle.wit_arena.specs.Tree.{Name, Place, in_interface, in_world, in_listed}
use Rattle.wit_package_types.specs.Foreign.{ForeignName, path_name}
use Rattle.wit_package_types.specs.declared.foreign.TypePath.{TypePath}
use Rattle.wit_package_types.specs.contracts.foreign.TypePathPartialEq.TheImpl as path_test

abbrev Text : Type 0
Text = Bor (List ℕ)

-- the name of an interface, where the place is one
abbrev interface_in : Place → Name
interface_in (in_interface x) = x
interface_in (in_world x) = []
interface_in (in_listed w s x) = []

abbrev path : Text → Text → Option Text → Text → Text → TypePath
path s p v i n = record { namespace = s; «package» = p; version = v; interface = i; name = n }

abbrev version_eq : Option Text → Option Text → Bool
version_eq None None = true
version_eq None (Some w) = false
version_eq (Some v) None = false
version_eq (Some v) (Some w) = bytes_eq v.now w.now

parts_of_test : (s p : Text) (v : Option Text) (i n s2 p2 : Text) (v2 : Option Text) (i2 n2 : Text)
    → (path_test.ghosts).eq (path s p v i n) (path s2 p2 v2 i2 n2) ≡ (bytes_eq s.now s2.now && (bytes_eq p.now p2.now && (version_eq v v2 && (bytes_eq i.now i2.now && bytes_eq n.now n2.now))))
parts_of_test s p None i n s2 p2 None i2 n2 = refl
parts_of_test s p None i n s2 p2 (Some w) i2 n2 = refl
parts_of_test s p (Some v) i n s2 p2 None i2 n2 = refl
parts_of_test s p (Some v) i n s2 p2 (Some w) i2 n2 = refl

same_path : (s p : Text) (v : Option Text) (i n s2 p2 : Text) (v2 : Option Text) (i2 n2 : Text) → s.now ≡ s2.now → p.now ≡ p2.now → option_map (λ (w : Text). w.now) v ≡ option_map (λ (w : Text). w.now) v2 → i.now ≡ i2.now → n.now ≡ n2.now
    → path_name (path s p v i n) ≡ path_name (path s2 p2 v2 i2 n2)
same_path s p v i n s2 p2 v2 i2 n2 a b c d e = rw (a, b, c, d, e) refl

same_version : (v w : Option Text) → version_eq v w ≡ true → option_map (λ (x : Text). x.now) v ≡ option_map (λ (x : Text). x.now) w
same_version None None h = refl
same_version None (Some w) h = absurd cc
same_version (Some v) None h = absurd cc
same_version (Some v) (Some w) h = ap (λ (x : List ℕ). Some x) ((bytes_eq-Decides v.now w.now).0 h)

version_same : (v w : Option Text) → option_map (λ (x : Text). x.now) v ≡ option_map (λ (x : Text). x.now) w → version_eq v w ≡ true
version_same None None h = refl
version_same None (Some w) h = absurd cc
version_same (Some v) None h = absurd cc
version_same (Some v) (Some w) h = (bytes_eq-Decides v.now w.now).1 (same_Some v.now w.now h)

both : (a b : Bool) → a ≡ true → b ≡ true → (a && b) ≡ true
both a b h k = rw (h, k) refl

-- what `==` says of two paths
unfoldable pub path_eq : TypePath → TypePath → Bool
path_eq = (path_test.ghosts).eq

pub path_eq-Decides : (a b : TypePath) → Decides (path_eq a b) (path_name a ≡ path_name b)
unfolding path_eq
path_eq-Decides a b = (
  λ h.
      let e = sym (parts_of_test a.namespace a.«package» a.version a.interface a.name b.namespace b.«package» b.version b.interface b.name) ∙ h in
      let s = and_parts (bytes_eq a.namespace.now b.namespace.now) (bytes_eq a.«package».now b.«package».now && (version_eq a.version b.version && (bytes_eq a.interface.now b.interface.now && bytes_eq a.name.now b.name.now))) e in
      let p = and_parts (bytes_eq a.«package».now b.«package».now) (version_eq a.version b.version && (bytes_eq a.interface.now b.interface.now && bytes_eq a.name.now b.name.now)) s.1 in
      let v = and_parts (version_eq a.version b.version) (bytes_eq a.interface.now b.interface.now && bytes_eq a.name.now b.name.now) p.1 in
      let i = and_parts (bytes_eq a.interface.now b.interface.now) (bytes_eq a.name.now b.name.now) v.1 in
      same_path a.namespace a.«package» a.version a.interface a.name b.namespace b.«package» b.version b.interface b.name ((bytes_eq-Decides a.namespace.now b.namespace.now).0 s.0) ((bytes_eq-Decides a.«package».now b.«package».now).0 p.0)
      (same_version a.version b.version v.0) ((bytes_eq-Decides a.interface.now b.interface.now).0 i.0) ((bytes_eq-Decides a.name.now b.name.now).0 i.1),
  λ h.
      parts_of_test a.namespace a.«package» a.version a.interface a.name b.namespace b.«package» b.version b.interface b.name
      ∙ both (bytes_eq a.namespace.now b.namespace.now) (bytes_eq a.«package».now b.«package».now && (version_eq a.version b.version && (bytes_eq a.interface.now b.interface.now && bytes_eq a.name.now b.name.now)))
      ((bytes_eq-Decides a.namespace.now b.namespace.now).1 (ap (λ (n : ForeignName). n.0.package_text.namespace) h))
      (both (bytes_eq a.«package».now b.«package».now) (version_eq a.version b.version && (bytes_eq a.interface.now b.interface.now && bytes_eq a.name.now b.name.now))
      ((bytes_eq-Decides a.«package».now b.«package».now).1 (ap (λ (n : ForeignName). n.0.package_text.name) h))
      (both (version_eq a.version b.version) (bytes_eq a.interface.now b.interface.now && bytes_eq a.name.now b.name.now)
      (version_same a.version b.version (ap (λ (n : ForeignName). n.0.package_text.version) h))
      (both (bytes_eq a.interface.now b.interface.now) (bytes_eq a.name.now b.name.now) ((bytes_eq-Decides a.interface.now b.interface.now).1 (ap (λ (n : ForeignName). interface_in n.0.place) h))
      ((bytes_eq-Decides a.name.now b.name.now).1 (ap (λ (n : ForeignName). n.1) h))))),
)
