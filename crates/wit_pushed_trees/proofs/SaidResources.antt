-- Types that a world has of its own, and resources that its functions are of.
use Rattle.std.proofs.Common.{◌≡◌, ℕ, Bool, true, false, List, Option, Some, None, refl, sym, subst, ap, ◌∙◌}
use Rattle.std.proofs.lemmas.Option.{same_Some}
use Rattle.std.specs.Prelude.{String, if◌then◌else◌}
use Rattle.std.specs.declared.alloc.Global.{Global}
use Rattle.wit_types.specs.declared.function.Function.{Function}
use Rattle.wit_types.specs.declared.function.FunctionKind.{FunctionKind}
use Rattle.wit_types.specs.declared.function.FunctionKind.TheVariants as of
use Rattle.wit_types.specs.declared.interface.TypeDef.{TypeDef}
use Rattle.wit_types.specs.declared.stability.Stability.{Stability}
use Rattle.wit_types.specs.declared.world.IncludeName.{IncludeName}
use Rattle.wit_features.specs.Features.{FeatureSet, stays}
use Rattle.wit_scopes.specs.Members.{MemberKind, MemberTree, used, defined, function, method, static, constructor}
use Rattle.wit_scopes.specs.Scopes.{ItemScope, WorldScope}
use Rattle.wit_sides.specs.Renames.{IsRenamed}
use Rattle.wit_moves.specs.Moved.{resource_of}
use Rattle.wit_arena.specs.Tree.{Name, PackageText, Place, in_world, Owner, Tree, named_tree, resource_leaf}
use Rattle.wit_arena.specs.Unfold.{Owners}
use Rattle.wit_arena.specs.Meaning.{MeansName, means_alias_of_name, means_alias, means_record, means_flags, means_enum, means_variant, means_resource, means_used, means_foreign}
use Rattle.wit_copied_trees.specs.Renamed.{IsRenamedTree, same_primitive, renamed_list, renamed_fixed_length_list, renamed_option, renamed_tuple, renamed_result, renamed_future, renamed_stream, renamed_own, renamed_borrow, renamed_record, same_flags, same_enum, renamed_variant, renamed_name, renamed_leaf, other_name, other_leaf}
use Rattle.wit_pushed_trees.specs.Meaning.{IsKindMeant}
use Rattle.wit_pushed_trees.specs.Meant.{PackageTexts}
use Rattle.wit_pushed_trees.specs.Staying.{resource_text, TypeRemains, FunctionRemains}
use Rattle.wit_pushed_trees.specs.Worlds.{IsKeptByGates, IsTextOf, IsTypeWritten}
use Rattle.wit_pushed_trees.specs.Said.{HasWorldText, world_owner, included_owner, SaysType, says_type, includes_type, IsOwnName, IsResourceSaid, HasResourceSaid}

-- ---- types of one owner

abbrev pub IsOf : Owner → Tree → Type 0
IsOf w (named_tree o x t) = o ≡ w
IsOf w (resource_leaf o x) = o ≡ w
IsOf w _ = ⊥

of_meaning : (me : PackageText) (scopes : List ItemScope) (given : Owner → Name → Tree) (o : Place) (x : Name) (t : Tree) → MeansName me scopes given o x t → IsOf (record { package_text = me; place = o }) t
of_meaning me scopes given _ _ _ (means_alias_of_name o x s y t declared means) = refl
of_meaning me scopes given _ _ _ (means_alias o x e t declared bare means) = refl
of_meaning me scopes given _ _ _ (means_record o x fs ts declared means) = refl
of_meaning me scopes given _ _ _ (means_flags o x ls declared) = refl
of_meaning me scopes given _ _ _ (means_enum o x ls declared) = refl
of_meaning me scopes given _ _ _ (means_variant o x cs ts declared means) = refl
of_meaning me scopes given _ _ _ (means_resource o x fs declared) = refl
of_meaning me scopes given _ _ _ (means_used o x i y t declared means) = refl
of_meaning me scopes given _ _ _ (means_foreign o x p i y declared) = refl

of_renamed : (names : List IncludeName) (v w : Owner) (t u : Tree) → IsRenamedTree names v w t u → IsOf v t → IsOf w u
of_renamed names v w _ _ (same_primitive p) is = absurd is
of_renamed names v w _ _ (renamed_list t u r) is = absurd is
of_renamed names v w _ _ (renamed_fixed_length_list t u n r) is = absurd is
of_renamed names v w _ _ (renamed_option t u r) is = absurd is
of_renamed names v w _ _ (renamed_tuple ts us r) is = absurd is
of_renamed names v w _ _ (renamed_result t u x y r q) is = absurd is
of_renamed names v w _ _ (renamed_future t u r) is = absurd is
of_renamed names v w _ _ (renamed_stream t u r) is = absurd is
of_renamed names v w _ _ (renamed_own t u r) is = absurd is
of_renamed names v w _ _ (renamed_borrow t u r) is = absurd is
of_renamed names v w _ _ (renamed_record xs ts us r) is = absurd is
of_renamed names v w _ _ (same_flags xs) is = absurd is
of_renamed names v w _ _ (same_enum xs) is = absurd is
of_renamed names v w _ _ (renamed_variant xs ts us r) is = absurd is
of_renamed names v w _ _ (renamed_name x y t u r q) is = refl
of_renamed names v w _ _ (renamed_leaf x y r) is = refl
of_renamed names v w _ _ (other_name o x t other) is = absurd (other is)
of_renamed names v w _ _ (other_leaf o x other) is = absurd (other is)

pub of_saying : (all : List PackageTexts) (given : Owner → Name → Tree) (w : Owner) (x : Name) (t : Tree) → SaysType all given w x t → IsOf w t
of_saying all given _ _ _ (says_type one w x t among text remains means) = of_meaning one.context.me one.context.scopes given (in_world w.name.text) x t means
of_saying all given _ _ _ (includes_type one w i names x y t u is says renamed tree) = of_renamed names (included_owner one i) (world_owner one w) t u tree (of_saying all given (included_owner one i) x t says)

-- ---- under their names

pub own_meaning : (me : PackageText) (scopes : List ItemScope) (given : Owner → Name → Tree) (o : Place) (x : Name) (t : Tree) → MeansName me scopes given o x t → IsOwnName (record { package_text = me; place = o }) x t
own_meaning me scopes given _ _ _ (means_alias_of_name o x s y t declared means) = (refl, refl)
own_meaning me scopes given _ _ _ (means_alias o x e t declared bare means) = (refl, refl)
own_meaning me scopes given _ _ _ (means_record o x fs ts declared means) = (refl, refl)
own_meaning me scopes given _ _ _ (means_flags o x ls declared) = (refl, refl)
own_meaning me scopes given _ _ _ (means_enum o x ls declared) = (refl, refl)
own_meaning me scopes given _ _ _ (means_variant o x cs ts declared means) = (refl, refl)
own_meaning me scopes given _ _ _ (means_resource o x fs declared) = (refl, refl)
own_meaning me scopes given _ _ _ (means_used o x i y t declared means) = (refl, refl)
own_meaning me scopes given _ _ _ (means_foreign o x p i y declared) = (refl, refl)

pub own_renamed : (names : List IncludeName) (v w : Owner) (x : Name) (t u : Tree) → IsRenamedTree names v w t u → IsOwnName v x t → (y : Name) × IsRenamed names x y × IsOwnName w y u
own_renamed names v w x _ _ (same_primitive p) is = absurd is
own_renamed names v w x _ _ (renamed_list t u r) is = absurd is
own_renamed names v w x _ _ (renamed_fixed_length_list t u n r) is = absurd is
own_renamed names v w x _ _ (renamed_option t u r) is = absurd is
own_renamed names v w x _ _ (renamed_tuple ts us r) is = absurd is
own_renamed names v w x _ _ (renamed_result t u n y r q) is = absurd is
own_renamed names v w x _ _ (renamed_future t u r) is = absurd is
own_renamed names v w x _ _ (renamed_stream t u r) is = absurd is
own_renamed names v w x _ _ (renamed_own t u r) is = absurd is
own_renamed names v w x _ _ (renamed_borrow t u r) is = absurd is
own_renamed names v w x _ _ (renamed_record xs ts us r) is = absurd is
own_renamed names v w x _ _ (same_flags xs) is = absurd is
own_renamed names v w x _ _ (same_enum xs) is = absurd is
own_renamed names v w x _ _ (renamed_variant xs ts us r) is = absurd is
own_renamed names v w x _ _ (renamed_name z y t u r q) is = (y, subst (λ (n : Name). IsRenamed names n y) is.1 r, (refl, refl))
own_renamed names v w x _ _ (renamed_leaf z y r) is = (y, subst (λ (n : Name). IsRenamed names n y) is.1 r, (refl, refl))
own_renamed names v w x _ _ (other_name o z t other) is = absurd (other is.0)
own_renamed names v w x _ _ (other_leaf o z other) is = absurd (other is.0)

pub own_is : (w : Owner) (x : Name) (t : Tree) → IsOwnName w x t → IsOf w t
own_is w x (named_tree o y t) is = is.0
own_is w x (resource_leaf o y) is = is.0
own_is w x _ is = absurd is

-- ---- the resource that a function is of

resource_if : (b : Bool) (k l : FunctionKind) (o : Option ℕ) → resource_of k ≡ o → resource_of l ≡ o → resource_of (if b then k else l) ≡ o
resource_if true k l o e f = e
resource_if false k l o e f = f

-- it is that for which the name stands
abbrev pub IsResourceMeant : (Name → ℕ → Type 0) → Option ℕ → Option Name → Type 0
IsResourceMeant stands None None = Unit {0}
IsResourceMeant stands (Some i) (Some x) = stands x i
IsResourceMeant stands None (Some x) = ⊥
IsResourceMeant stands (Some i) None = ⊥

pub kind_resource : (stands : Name → ℕ → Type 0) (m : MemberKind) (k : FunctionKind) → IsKindMeant stands m k → IsResourceMeant stands (resource_of k) (resource_text m)
kind_resource stands (used t n) k is = absurd is
kind_resource stands (defined t) k is = absurd is
kind_resource stands (function f) k is = subst (λ (o : Option ℕ). IsResourceMeant stands o None) (sym (ap resource_of is ∙ resource_if f.is_async of.AsyncFreestanding of.Freestanding None refl refl)) tt
kind_resource stands (method r f) k is = subst (λ (o : Option ℕ). IsResourceMeant stands o (Some r.text)) (sym (ap resource_of is.2 ∙ resource_if f.is_async (of.AsyncMethod is.0) (of.Method is.0) (Some is.0) refl refl)) is.1
kind_resource stands (static r f) k is = subst (λ (o : Option ℕ). IsResourceMeant stands o (Some r.text)) (sym (ap resource_of is.2 ∙ resource_if f.is_async (of.AsyncStatic is.0) (of.Static is.0) (Some is.0) refl refl)) is.1
kind_resource stands (constructor r ps t) k is = subst (λ (o : Option ℕ). IsResourceMeant stands o (Some r.text)) (sym (ap resource_of is.2)) is.1

-- where it is one by other texts, types or owners
pub resource_so : (all more : List PackageTexts) (given : Owner → Name → Tree) (old new : Owners) (a b : List TypeDef) (w : Owner) → ((i : ℕ) (x : Name) → IsResourceSaid all given old a w i x → IsResourceSaid more given new b w i x)
    → (o : Option ℕ) (n : Option Name) → HasResourceSaid all given old a w o n → HasResourceSaid more given new b w o n
resource_so all more given old new a b w so None None has = tt
resource_so all more given old new a b w so (Some i) (Some x) has = so i x has
resource_so all more given old new a b w so None (Some x) has = absurd has
resource_so all more given old new a b w so (Some i) None has = absurd has

-- and by what is meant
pub meant_resource : (all : List PackageTexts) (given : Owner → Name → Tree) (owners : Owners) (types : List TypeDef) (w : Owner) (stands : Name → ℕ → Type 0) (o : Option ℕ) (n : Option Name) → ((i : ℕ) (x : Name) → n ≡ Some x → stands x i → IsResourceSaid all given owners types w i x)
    → IsResourceMeant stands o n → HasResourceSaid all given owners types w o n
meant_resource all given owners types w stands None None so has = tt
meant_resource all given owners types w stands (Some i) (Some x) so has = so i x refl has
meant_resource all given owners types w stands None (Some x) so has = absurd has
meant_resource all given owners types w stands (Some i) None so has = absurd has

-- the name that is written is that of a type
pub named_resource : (stands : Name → ℕ → Type 0) (o : Option ℕ) (n : Option Name) (x : Name) → n ≡ Some x → IsResourceMeant stands o n → (i : ℕ) × stands x i
named_resource stands None None x e has = absurd cc
named_resource stands None (Some y) x e has = absurd has
named_resource stands (Some i) None x e has = absurd has
named_resource stands (Some i) (Some y) x e has = (i, subst (λ (z : Name). stands z i) (same_Some y x e) has)

-- ---- what remains

-- what is kept by its gates remains
pub text_remains : (one : PackageTexts) (name : String Global) (stability : Stability) (w : WorldScope) → IsTextOf (stays one.features) one.worlds name stability w → HasWorldText one w
text_remains one name stability w t = (t.there, (stability, t.gates.0, t.gates.1))

pub type_remains : (features : FeatureSet) (types : List TypeDef) (ms : List MemberTree) (x : Name) (i : ℕ) → IsTypeWritten (stays features) types ms x i → TypeRemains features ms x
type_remains features types ms x i w = (w.member, w.written, w.spelled_as, (w.def.stability, w.gates.0, w.gates.1))

pub function_remains : (features : FeatureSet) (types : List TypeDef) (ms : List MemberTree) (m : MemberTree) (f : Function) → IsKeptByGates (stays features) m.attributes f.stability → IsKindMeant (λ (x : Name) (i : ℕ). IsTypeWritten (stays features) types ms x i) m.kind f.kind
    → FunctionRemains features ms m
function_remains features types ms m f gates kind = record {
  gates = (f.stability, gates.0, gates.1);
  resource = λ x named. (
      let written : Name → ℕ → Type 0 = λ y i. IsTypeWritten (stays features) types ms y i in
      let r = named_resource written (resource_of f.kind) (resource_text m.kind) x named (kind_resource written m.kind f.kind kind) in
      type_remains features types ms x r.0 r.1);
}
