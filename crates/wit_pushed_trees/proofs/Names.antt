-- Names stand for packages of that name.
use Rattle.std.proofs.Common.{◌≡◌, ℕ, Bool, true, false, ◌&&◌, List, [], ◌∷◌, ◌++◌, length, Option, Some, None, bytes_eq, nat_eq, inl, inr, refl, sym, subst, ap, ◌∙◌, option_map}
use Rattle.std.proofs.lemmas.Bool.{and_parts}
use Rattle.std.proofs.lemmas.Slice.Eq.{bytes_eq-Decides}
use Rattle.std.specs.Cmp.{unsigned_Decides}
use Rattle.std.specs.Prelude.{String, string_bytes, string_eq, slice_get}
use Rattle.std.specs.declared.alloc.Global.{Global}
use Rattle.semver.specs.declared.Version.{Version}
use Rattle.semver.specs.Identifiers.{pre_text, build_text, parts_of}
use Rattle.wit_types.specs.declared.«package».Package.{Package}
use Rattle.wit_types.specs.declared.«package».PackageName.{PackageName}
use Rattle.wit_arena.proofs.Lists.{has_none, get_kept, get_last, get_more}
use Rattle.wit_graph.proofs.Finishing.{insert_fresh}
use Rattle.wit_graph.specs.Passed.wit_graph_worlds-Names.{IsSameName}
use Rattle.wit_pushed_trees.specs.Found.{EqualNamesAreTheSame, NamesStand, EmptyNamesStand, PushedNamesStand}

-- ---- equal names

abbrev version_test : Version → Version → Bool
version_test v w =
    nat_eq v.major w.major && (nat_eq v.minor w.minor && (nat_eq v.patch w.patch && (bytes_eq (pre_text v.pre) (pre_text w.pre) && bytes_eq (build_text v.build) (build_text w.build))))

abbrev optional_test : Option Version → Option Version → Bool
optional_test None None = true
optional_test None (Some w) = false
optional_test (Some v) None = false
optional_test (Some v) (Some w) = version_test v w

same_parts : (a b c d e f : ℕ) (g h i j : List ℕ) → a ≡ b → c ≡ d → e ≡ f → g ≡ h → i ≡ j → ◌≡◌ {A = ℕ × ℕ × ℕ × List ℕ × List ℕ} (a, c, e, g, i) (b, d, f, h, j)
same_parts a b c d e f g h i j p q r s t = rw (p, q, r, s, t) refl

same_version : (v w : Version) → version_test v w ≡ true → parts_of v ≡ parts_of w
same_version v w t =
    let a = and_parts (nat_eq v.major w.major) (nat_eq v.minor w.minor && (nat_eq v.patch w.patch && (bytes_eq (pre_text v.pre) (pre_text w.pre) && bytes_eq (build_text v.build) (build_text w.build)))) t in
    let b = and_parts (nat_eq v.minor w.minor) (nat_eq v.patch w.patch && (bytes_eq (pre_text v.pre) (pre_text w.pre) && bytes_eq (build_text v.build) (build_text w.build))) a.1 in
    let c = and_parts (nat_eq v.patch w.patch) (bytes_eq (pre_text v.pre) (pre_text w.pre) && bytes_eq (build_text v.build) (build_text w.build)) b.1 in
    let d = and_parts (bytes_eq (pre_text v.pre) (pre_text w.pre)) (bytes_eq (build_text v.build) (build_text w.build)) c.1 in
    same_parts v.major w.major v.minor w.minor v.patch w.patch (pre_text v.pre) (pre_text w.pre) (build_text v.build) (build_text w.build) ((unsigned_Decides v.major w.major).0 a.0) ((unsigned_Decides v.minor w.minor).0 b.0) ((unsigned_Decides v.patch w.patch).0 c.0)
    ((bytes_eq-Decides (pre_text v.pre) (pre_text w.pre)).0 d.0) ((bytes_eq-Decides (build_text v.build) (build_text w.build)).0 d.1)

same_versions : (v w : Option Version) → optional_test v w ≡ true → option_map parts_of w ≡ option_map parts_of v
same_versions None None t = refl
same_versions None (Some w) t = absurd cc
same_versions (Some v) None t = absurd cc
same_versions (Some v) (Some w) t = ap (λ p. Some p) (sym (same_version v w t))

abbrev name_of : String Global → String Global → Option Version → PackageName
name_of s n v = record { namespace = s; name = n; version = v }

by_parts : (s n : String Global) (v : Option Version) (t m : String Global) (w : Option Version) → (string_eq s t && (string_eq n m && optional_test v w)) ≡ true → IsSameName (name_of s n v) (name_of t m w)
by_parts s n v t m w e =
    let a = and_parts (string_eq s t) (string_eq n m && optional_test v w) e in
    let b = and_parts (string_eq n m) (optional_test v w) a.1 in
    record {
      namespace_is = sym ((bytes_eq-Decides (string_bytes s) (string_bytes t)).0 a.0);
      name_is = sym ((bytes_eq-Decides (string_bytes n) (string_bytes m)).0 b.0);
      version_is = same_versions v w b.1;
    }

pub equal_names : EqualNamesAreTheSame
equal_names n m e = by_parts n.namespace n.name n.version m.namespace m.name m.version e

-- ---- packages under their names

pub empty_stand : EmptyNamesStand
empty_stand n i has = absurd (has_none (n, i) has)

stand_more : (packages : List Package) (names : List (PackageName × ℕ)) (n : PackageName) (q : Package) → NamesStand packages names → IsSameName n q.name → NamesStand (packages ++ q ∷ []) (names ++ (n, length packages) ∷ [])
stand_more packages names n q stand is m i (k, at) = elim (get_more names (n, length packages) (m, i) k at) as (λ _. (r : Package) × (slice_get (packages ++ q ∷ []) i ≡ Some r) × IsSameName m r.name) [
  | inl was ↦ (let r = stand m i (k, was) in (r.0, get_kept packages (q ∷ []) i r.0 r.1, r.2))
  | inr last ↦ (
    q,
    subst (λ (j : ℕ). slice_get (packages ++ q ∷ []) j ≡ Some q) (sym (ap (λ (e : PackageName × ℕ). e.1) last.1)) (get_last packages q),
    subst (λ (x : PackageName). IsSameName x q.name) (sym (ap (λ (e : PackageName × ℕ). e.0) last.1)) is,
  )
]

pub pushed_names : PushedNamesStand
pushed_names eq features old p new id h stand =
    let put = h.put in
    let is : IsSameName p.name put.added.q.name = subst (IsSameName p.name) (sym put.added.is_package.name_is) put.is_same in
    let names : new.names ≡ old.names ++ (p.name, length old.tables.packages) ∷ [] =
    subst (λ (i : ℕ). new.names ≡ old.names ++ (p.name, i) ∷ []) put.id_is (put.names_are ∙ insert_fresh eq old.names p.name id h.fresh) in
    subst (λ (ps : List Package). NamesStand ps new.names) (sym put.added.packages_are)
    (subst (NamesStand (old.tables.packages ++ put.added.q ∷ [])) (sym names) (stand_more old.tables.packages old.names p.name put.added.q stand is))
