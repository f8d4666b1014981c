-- A package whose name stands for none that is there has a new text.
use Rattle.std.proofs.Common.{◌≡◌, ℕ, Bool, true, false, List, [], ◌∷◌, ◌++◌, Option, Some, None, inl, inr, refl, sym, subst, ap, ◌∙◌, option_map}
use Rattle.std.proofs.lemmas.Option.{same_Some}
use Rattle.std.specs.Map.{lookup}
use Rattle.std.specs.Prelude.{string_bytes, codes, is_some, if◌then◌else◌}
use Rattle.semver.proofs.Numerals.{ok-value}
use Rattle.semver.specs.Identifiers.{parts_of, parts_text, version_text}
use Rattle.semver.specs.Parse.{Parts, version_parts}
use Rattle.semver.specs.declared.Version.{Version}
use Rattle.wit_order.specs.Order.{Has}
use Rattle.wit_types.specs.Package.{package_text, with_version}
use Rattle.wit_types.specs.declared.«package».PackageName.{PackageName}
use Rattle.wit_plain_texts.specs.Plain.{IsPlain, IsWithout}
use Rattle.wit_item_names.specs.Passed.wit_graph_worlds-Names.{IsSameName}
use Rattle.wit_item_names.proofs.Texts.{split_mark, has_mark}
use Rattle.wit_new_names.specs.Names.{ReadsBack, IsReadName, NewNamesAreNew}

-- ---- texts of names

same_with : (x y : List ℕ) (v w : Option Version) → x ≡ y → option_map parts_of v ≡ option_map parts_of w → with_version x v ≡ with_version y w
same_with x y None None e f = e
same_with x y None (Some w) e f = absurd cc
same_with x y (Some v) None e f = absurd cc
same_with x y (Some v) (Some w) e f =
    ap (λ (t : List ℕ). t ++ (codes "@" ++ version_text v)) e ∙ ap (λ (p : Parts). y ++ (codes "@" ++ parts_text p)) (same_Some (parts_of v) (parts_of w) f)

-- the same names have one text
pub one_text : (n m : PackageName) → IsSameName n m → package_text m ≡ package_text n
one_text n m is =
    ap (λ (t : List ℕ). t ++ (codes ":" ++ with_version (string_bytes m.name) m.version)) is.namespace_is
    ∙ ap (λ (t : List ℕ). string_bytes n.namespace ++ (codes ":" ++ t)) (same_with (string_bytes m.name) (string_bytes n.name) m.version n.version is.name_is is.version_is)

same_versions : (x y : List ℕ) (v w : Option Version) → IsWithout 64 x → IsWithout 64 y → ReadsBack v → ReadsBack w → with_version x v ≡ with_version y w → (x ≡ y) × (option_map parts_of v ≡ option_map parts_of w)
same_versions x y None None a b r s e = (e, refl)
same_versions x y None (Some w) a b r s e = absurd (a (subst (λ (t : List ℕ). Has t 64) (sym e) (has_mark 64 y (version_text w))))
same_versions x y (Some v) None a b r s e = absurd (b (subst (λ (t : List ℕ). Has t 64) e (has_mark 64 x (version_text v))))
same_versions x y (Some v) (Some w) a b r s e =
    let split = split_mark 64 x y (version_text v) (version_text w) a b e in
    (split.0, ap (λ (p : Parts). Some p) (ok-value (parts_of v) (parts_of w) (sym r ∙ ap version_parts split.1 ∙ s)))

-- names that are read back from one text are the same
pub same_names : (n m : PackageName) → IsReadName n → IsReadName m → package_text m ≡ package_text n → IsSameName n m
same_names n m a b e =
    let first = split_mark 58 (string_bytes m.namespace) (string_bytes n.namespace) (with_version (string_bytes m.name) m.version) (with_version (string_bytes n.name) n.version) b.namespace.colon a.namespace.colon e in
    let second = same_versions (string_bytes m.name) (string_bytes n.name) m.version n.version b.name.at a.name.at b.version a.version first.1 in
    record { namespace_is = first.0; name_is = second.0; version_is = second.1 }

-- ---- what stands among names

is_not : (b : Bool) (x : ℕ) (rest : Option ℕ) → b ≡ true → is_some (if b then Some x else rest) ≡ false → ⊥
is_not true x rest t e = absurd cc
is_not false x rest t e = absurd cc

rest_is : (b : Bool) (x : ℕ) (rest : Option ℕ) → is_some (if b then Some x else rest) ≡ false → is_some rest ≡ false
rest_is true x rest e = absurd cc
rest_is false x rest e = e

-- none of those equals one that isn't found
pub absent : (eq : PackageName → PackageName → Bool) (k n : PackageName) (i : ℕ) (es : List (PackageName × ℕ)) → is_some (lookup (eq k) es) ≡ false → Has es (n, i) → eq k n ≡ true → ⊥
absent eq k n i [] fresh has t = has
absent eq k n i (x ∷ es) fresh (inl here) t = is_not (eq k x.0) x.1 (lookup (eq k) es) (ap (λ (e : PackageName × ℕ). eq k e.0) (sym here) ∙ t) fresh
absent eq k n i (x ∷ es) fresh (inr later) t = absent eq k n i es (rest_is (eq k x.0) x.1 (lookup (eq k) es) fresh) later t

pub new_names : NewNamesAreNew
new_names eq packages names n q sees known is_read fresh is = record {
  fresh = λ i a at same.
      let k = known i a at in
      let one : package_text k.name ≡ package_text n = sym (one_text k.name a.name k.is_same) ∙ same ∙ one_text n q.name is in
      absent eq n k.name i names fresh k.there (sees n k.name (same_names n k.name is_read k.is_read one));
  namespace = subst IsPlain (sym is.namespace_is) is_read.namespace;
  name = subst IsPlain (sym is.name_is) is_read.name;
}
