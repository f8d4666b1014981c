-- Two paths of packages are equal by `==` exactly where their texts are.
use Rattle.std.proofs.Common.{◌≡◌, Bool, ◌&&◌, Option, Some, None, bytes_eq, refl, sym, ap, ◌∙◌, option_map}
use Rattle.std.proofs.lemmas.Bool.{and_parts}
use Rattle.std.proofs.lemmas.Slice.Eq.{bytes_eq-Decides}
use Rattle.std.specs.Bool.{Decides}
use Rattle.wit_package_types.specs.Passed.wit_arena-Tree.{PackageText}
use Rattle.wit_foreign.specs.GroupView.{path_text}
use Rattle.wit_foreign.specs.declared.groups.PackagePath.{PackagePath}
use Rattle.wit_foreign.specs.contracts.groups.PackagePathPartialEq.TheImpl as path_test
use Rattle.wit_foreign.proofs.ItemPaths.{Text, version_eq, same_version, version_same, both}

abbrev path : Text → Text → Option Text → PackagePath
path s p v = record { namespace = s; name = p; version = v }

parts_of_test : (s p : Text) (v : Option Text) (s2 p2 : Text) (v2 : Option Text) → (path_test.ghosts).eq (path s p v) (path s2 p2 v2) ≡ (bytes_eq s.now s2.now && (bytes_eq p.now p2.now && version_eq v v2))
parts_of_test s p None s2 p2 None = refl
parts_of_test s p None s2 p2 (Some w) = refl
parts_of_test s p (Some v) s2 p2 None = refl
parts_of_test s p (Some v) s2 p2 (Some w) = refl

same_path : (s p : Text) (v : Option Text) (s2 p2 : Text) (v2 : Option Text) → s.now ≡ s2.now → p.now ≡ p2.now → option_map (λ (w : Text). w.now) v ≡ option_map (λ (w : Text). w.now) v2 → path_text (path s p v) ≡ path_text (path s2 p2 v2)
same_path s p v s2 p2 v2 e f g = rw (e, f, g) refl

-- what `==` says of two paths
unfoldable pub package_eq : PackagePath → PackagePath → Bool
package_eq = (path_test.ghosts).eq

pub package_eq-Decides : (a b : PackagePath) → Decides (package_eq a b) (path_text a ≡ path_text b)
unfolding package_eq
package_eq-Decides a b = (
  λ h.
      let e = sym (parts_of_test a.namespace a.name a.version b.namespace b.name b.version) ∙ h in
      let s = and_parts (bytes_eq a.namespace.now b.namespace.now) (bytes_eq a.name.now b.name.now && version_eq a.version b.version) e in
      let p = and_parts (bytes_eq a.name.now b.name.now) (version_eq a.version b.version) s.1 in
      same_path a.namespace a.name a.version b.namespace b.name b.version ((bytes_eq-Decides a.namespace.now b.namespace.now).0 s.0) ((bytes_eq-Decides a.name.now b.name.now).0 p.0) (same_version a.version b.version p.1),
  λ h.
      parts_of_test a.namespace a.name a.version b.namespace b.name b.version
      ∙ both (bytes_eq a.namespace.now b.namespace.now) (bytes_eq a.name.now b.name.now && version_eq a.version b.version) ((bytes_eq-Decides a.namespace.now b.namespace.now).1 (ap (λ (t : PackageText). t.namespace) h))
      (both (bytes_eq a.name.now b.name.now) (version_eq a.version b.version) ((bytes_eq-Decides a.name.now b.name.now).1 (ap (λ (t : PackageText). t.name) h)) (version_same a.version b.version (ap (λ (t : PackageText). t.version) h))),
)
