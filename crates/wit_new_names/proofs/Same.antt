-- Names of packages with the same texts and versions are equal by `==`.
use Rattle.std.proofs.Common.{◌≡◌, Bool, true, Option, Some, None, ◌&&◌, bytes_eq, nat_eq, sym, ap, ◌∙◌, option_map}
use Rattle.std.proofs.lemmas.Option.{same_Some}
use Rattle.std.proofs.lemmas.Slice.Eq.{bytes_eq-Decides}
use Rattle.std.specs.Cmp.{unsigned_Decides}
use Rattle.std.specs.Prelude.{String, string_bytes, string_eq}
use Rattle.std.specs.declared.alloc.Global.{Global}
use Rattle.semver.specs.Identifiers.{pre_text, build_text, parts_of}
use Rattle.semver.specs.Parse.{Parts}
use Rattle.semver.specs.declared.Version.{Version}
use Rattle.wit_types.specs.declared.«package».PackageName.{PackageName}
use Rattle.wit_types.specs.contracts.«package».PackageNamePartialEq.TheImpl as name_test
use Rattle.wit_new_names.specs.Names.{SeesSameNames}

abbrev version_test : Version → Version → Bool
version_test v w =
    nat_eq v.major w.major && (nat_eq v.minor w.minor && (nat_eq v.patch w.patch && (bytes_eq (pre_text v.pre) (pre_text w.pre) && bytes_eq (build_text v.build) (build_text w.build))))

same_versions : (v w : Version) → parts_of v ≡ parts_of w → version_test v w ≡ true
same_versions v w e =
    ap (λ (b : Bool). b && (nat_eq v.minor w.minor && (nat_eq v.patch w.patch && (bytes_eq (pre_text v.pre) (pre_text w.pre) && bytes_eq (build_text v.build) (build_text w.build))))) ((unsigned_Decides v.major w.major).1 (ap (λ (p : Parts). p.0) e))
    ∙ ap (λ (b : Bool). b && (nat_eq v.patch w.patch && (bytes_eq (pre_text v.pre) (pre_text w.pre) && bytes_eq (build_text v.build) (build_text w.build)))) ((unsigned_Decides v.minor w.minor).1 (ap (λ (p : Parts). p.1) e))
    ∙ ap (λ (b : Bool). b && (bytes_eq (pre_text v.pre) (pre_text w.pre) && bytes_eq (build_text v.build) (build_text w.build))) ((unsigned_Decides v.patch w.patch).1 (ap (λ (p : Parts). p.2) e))
    ∙ ap (λ (b : Bool). b && bytes_eq (build_text v.build) (build_text w.build)) ((bytes_eq-Decides (pre_text v.pre) (pre_text w.pre)).1 (ap (λ (p : Parts). p.3) e))
    ∙ (bytes_eq-Decides (build_text v.build) (build_text w.build)).1 (ap (λ (p : Parts). p.4) e)

abbrev name_of : String Global → String Global → Option Version → PackageName
name_of s n v = record { namespace = s; name = n; version = v }

by_parts : (s n : String Global) (v : Option Version) (t m : String Global) (w : Option Version) → string_eq s t ≡ true → string_eq n m ≡ true → option_map parts_of v ≡ option_map parts_of w
    → (name_test.ghosts).eq (name_of s n v) (name_of t m w) ≡ true
by_parts s n None t m None a b e = ap (λ (x : Bool). x && (string_eq n m && true)) a ∙ ap (λ (x : Bool). x && true) b
by_parts s n None t m (Some w) a b e = absurd cc
by_parts s n (Some v) t m None a b e = absurd cc
by_parts s n (Some v) t m (Some w) a b e =
    ap (λ (x : Bool). x && (string_eq n m && version_test v w)) a ∙ ap (λ (x : Bool). x && version_test v w) b ∙ same_versions v w (same_Some (parts_of v) (parts_of w) e)

pub same_names_are_equal : SeesSameNames (name_test.ghosts).eq
same_names_are_equal n m is =
    by_parts n.namespace n.name n.version m.namespace m.name m.version ((bytes_eq-Decides (string_bytes n.namespace) (string_bytes m.namespace)).1 (sym is.namespace_is)) ((bytes_eq-Decides (string_bytes n.name) (string_bytes m.name)).1 (sym is.name_is))
    (sym is.version_is)
