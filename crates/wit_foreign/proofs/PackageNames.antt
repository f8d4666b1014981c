-- Names of packages that are equal by `==` have the same texts.
use Rattle.std.proofs.Common.{◌≡◌, ℕ, Bool, true, false, ◌&&◌, List, Option, Some, None, bytes_eq, nat_eq, refl, sym, ap, ◌∙◌, option_map}
use Rattle.std.proofs.lemmas.Bool.{and_parts}
use Rattle.std.proofs.lemmas.Slice.Eq.{bytes_eq-Decides}
use Rattle.std.specs.Cmp.{unsigned_Decides}
use Rattle.std.specs.Prelude.{String, string_bytes, string_eq}
use Rattle.std.specs.declared.alloc.Global.{Global}
use Rattle.semver.specs.declared.Version.{Version}
use Rattle.semver.specs.Identifiers.{pre_text, build_text, parts_of, parts_text}
use Rattle.semver.proofs.Grammar.{version_parts-sound}
use Rattle.wit_words.specs.Slice.{Slice}
use Rattle.wit_lookups.specs.Passed.wit_syntax-Ast.{PackageNameTree}
use Rattle.wit_types.specs.declared.«package».PackageName.{PackageName}
use Rattle.wit_types.specs.contracts.«package».PackageNamePartialEq.TheImpl as name_test
use Rattle.wit_package_types.specs.Passed.wit_arena-Tree.{Name, PackageText}
use Rattle.wit_package_types.specs.Passed.wit_arena-Meaning.{package_text}
use Rattle.wit_package_types.specs.Stability.{IsVersionOf, IsVersionWhere, no_version, a_version}
use Rattle.wit_foreign.specs.Deps.{IsPackageName}

abbrev version_test : Version → Version → Bool
version_test v w =
    nat_eq v.major w.major && (nat_eq v.minor w.minor && (nat_eq v.patch w.patch && (bytes_eq (pre_text v.pre) (pre_text w.pre) && bytes_eq (build_text v.build) (build_text w.build))))

abbrev optional_test : Option Version → Option Version → Bool
optional_test None None = true
optional_test None (Some w) = false
optional_test (Some v) None = false
optional_test (Some v) (Some w) = version_test v w

abbrev name_of : String Global → String Global → Option Version → PackageName
name_of s n v = record { namespace = s; name = n; version = v }

parts_of_test : (s n : String Global) (v : Option Version) (s2 n2 : String Global) (v2 : Option Version) → (name_test.ghosts).eq (name_of s n v) (name_of s2 n2 v2) ≡ (string_eq s s2 && (string_eq n n2 && optional_test v v2))
parts_of_test s n None s2 n2 None = refl
parts_of_test s n None s2 n2 (Some w) = refl
parts_of_test s n (Some v) s2 n2 None = refl
parts_of_test s n (Some v) s2 n2 (Some w) = refl

same_parts : (a b c d e f : ℕ) (g h i j : List ℕ) → a ≡ b → c ≡ d → e ≡ f → g ≡ h → i ≡ j → ◌≡◌ {A = ℕ × ℕ × ℕ × List ℕ × List ℕ} (a, c, e, g, i) (b, d, f, h, j)
same_parts a b c d e f g h i j p q r s t = rw (p, q, r, s, t) refl

same_version : (v w : Version) → version_test v w ≡ true → parts_of v ≡ parts_of w
same_version v w t =
    let a = and_parts (nat_eq v.major w.major) (nat_eq v.minor w.minor && (nat_eq v.patch w.patch && (bytes_eq (pre_text v.pre) (pre_text w.pre) && bytes_eq (build_text v.build) (build_text w.build)))) t in
    let b = and_parts (nat_eq v.minor w.minor) (nat_eq v.patch w.patch && (bytes_eq (pre_text v.pre) (pre_text w.pre) && bytes_eq (build_text v.build) (build_text w.build))) a.1 in
    let c = and_parts (nat_eq v.patch w.patch) (bytes_eq (pre_text v.pre) (pre_text w.pre) && bytes_eq (build_text v.build) (build_text w.build)) b.1 in
    let d = and_parts (bytes_eq (pre_text v.pre) (pre_text w.pre)) (bytes_eq (build_text v.build) (build_text w.build)) c.1 in
    same_parts v.major w.major v.minor w.minor v.patch w.patch (pre_text v.pre) (pre_text w.pre) (build_text v.build) (build_text w.build) ((unsigned_Decides v.major w.major).0 a.0) ((unsigned_Decides v.minor w.minor).0 b.0) ((unsigned_Decides v.patch w.patch).0 c.0)
    ((bytes_eq-Decides (pre_text v.pre) (pre_text w.pre)).0 d.0) ((bytes_eq-Decides (build_text v.build) (build_text w.build)).0 d.1)

-- a text is that of the version that is read
read_text : (v : Slice) (w : Version) → IsVersionOf v w → parts_text (parts_of w) ≡ v.text
read_text v w is = (version_parts-sound v.text (parts_of w) is).0

same_read : (p q : Option Slice) (v w : Option Version) → IsVersionWhere p v → IsVersionWhere q w → optional_test v w ≡ true → option_map (λ (x : Slice). x.text) p ≡ option_map (λ (x : Slice). x.text) q
same_read p q v w no_version no_version t = refl
same_read p q v w no_version (a_version y z is) t = absurd cc
same_read p q v w (a_version y z is) no_version t = absurd cc
same_read p q v w (a_version x z is) (a_version y z2 is2) t = ap (λ (n : Name). Some n) (sym (read_text x z is) ∙ ap parts_text (same_version z z2 t) ∙ read_text y z2 is2)

same_texts : (a b c d : Name) (v w : Option Name) → a ≡ b → c ≡ d → v ≡ w → ◌≡◌ {A = PackageText} (record { namespace = a; name = c; version = v }) (record { namespace = b; name = d; version = w })
same_texts a b c d v w e f g = rw (e, f, g) refl

-- what `==` says of two names
unfoldable pub name_eq : PackageName → PackageName → Bool
name_eq = (name_test.ghosts).eq

pub same_names : (p q : PackageNameTree) (a b : PackageName) → IsPackageName p a → IsPackageName q b → name_eq a b ≡ true → package_text p ≡ package_text q
unfolding name_eq
same_names p q a b is_a is_b t =
    let e = sym (parts_of_test a.namespace a.name a.version b.namespace b.name b.version) ∙ t in
    let s = and_parts (string_eq a.namespace b.namespace) (string_eq a.name b.name && optional_test a.version b.version) e in
    let n = and_parts (string_eq a.name b.name) (optional_test a.version b.version) s.1 in
    same_texts p.namespace.text q.namespace.text p.name.text q.name.text (option_map (λ (x : Slice). x.text) p.version) (option_map (λ (x : Slice). x.text) q.version)
    (sym is_a.namespace ∙ (bytes_eq-Decides (string_bytes a.namespace) (string_bytes b.namespace)).0 s.0 ∙ is_b.namespace)
    (sym is_a.name ∙ (bytes_eq-Decides (string_bytes a.name) (string_bytes b.name)).0 n.0 ∙ is_b.name)
    (same_read p.version q.version a.version b.version is_a.version is_b.version n.1)
