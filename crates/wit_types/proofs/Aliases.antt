use Rattle.std.proofs.Common.{◌≡◌, ℕ, List, Some, ◌∙◌, refl, sym, ap, subst, eqb, eq-eqb, eqb-true, true, false, Bool, ◌&&◌, IsTrue}
use Rattle.std.proofs.lemmas.Option.{same_Some}
use Rattle.wit_types.specs.declared.interface.TypeDef.{TypeDef}
use Rattle.wit_types.specs.declared.kind.Type.TheVariants.{Id}
use Rattle.wit_types.specs.declared.kind.Handle.TheVariants.{Own}
use Rattle.wit_types.specs.declared.kind.TypeDefKind.TheVariants as kind
use Rattle.wit_types.specs.declared.function.Function.{Function}
use Rattle.wit_types.specs.declared.function.FunctionKind.TheVariants.{Constructor}
use Rattle.wit_types.specs.Shorthand.{IsAlias, IsOwn, IsResource, Stands, itself, alias, IsReference, by_handle, by_resource, IsShorthand}

-- a type is another name of one type at most
alias_one : (types : List TypeDef) (i j k : ℕ) → IsAlias types i j → IsAlias types i k → j ≡ k
alias_one types i j k a b =
    let d : a.0 ≡ b.0 = same_Some a.0 b.0 (sym a.1 ∙ b.1) in
    let e : kind.Alias (Id j) ≡ kind.Alias (Id k) = sym a.2 ∙ ap (λ (x : TypeDef). x.kind) d ∙ b.2 in
    cc

-- and stands for one
pub stands_one : (types : List TypeDef) (i j k : ℕ) → Stands types i j → Stands types i k → j ≡ k
stands_one types i j k (itself _ none) (itself _ other) = refl
stands_one types i j k (itself _ none) (alias _ m _ is rest) = absurd (none m is)
stands_one types i j k (alias _ m _ is rest) (itself _ none) = absurd (none m is)
stands_one types i j k (alias _ m _ is rest) (alias _ n _ other more) =
    stands_one types n j k (subst (λ (x : ℕ). Stands types x j) (alias_one types i m n is other) rest) more

own_one : (types : List TypeDef) (i j k : ℕ) → IsOwn types i j → IsOwn types i k → j ≡ k
own_one types i j k a b =
    let d : a.0 ≡ b.0 = same_Some a.0 b.0 (sym a.1 ∙ b.1) in
    let e : kind.Handle (Own j) ≡ kind.Handle (Own k) = sym a.2 ∙ ap (λ (x : TypeDef). x.kind) d ∙ b.2 in
    cc

own_is_no_resource : (types : List TypeDef) (i j : ℕ) → IsOwn types i j → IsResource types i → ⊥
own_is_no_resource types i j a b =
    let d : a.0 ≡ b.0 = same_Some a.0 b.0 (sym a.1 ∙ b.1) in
    let e : kind.Handle (Own j) ≡ kind.Resource = sym a.2 ∙ ap (λ (x : TypeDef). x.kind) d ∙ b.2 in
    absurd cc

-- where a type is a handle, what it owns decides whether it is the own reference of a resource
pub handle_refers : (types : List TypeDef) (i h o a j : ℕ) → Stands types i h → IsOwn types h o → Stands types o a → (a ≡ j → IsReference types i j) × (IsReference types i j → a ≡ j)
handle_refers types i h o a j stands owns owned = ((λ e. by_handle h o stands owns (subst (λ (x : ℕ). Stands types o x) e owned)), decided)
  where
    decided : IsReference types i j → a ≡ j
    decided (by_handle g p s is t) = (
        let same : h ≡ g = stands_one types i h g stands s in
        let owned_same : o ≡ p = own_one types h o p owns (subst (λ (x : ℕ). IsOwn types x p) (sym same) is) in
        stands_one types o a j owned (subst (λ (x : ℕ). Stands types x j) (sym owned_same) t))
    decided (by_resource s is) = absurd (own_is_no_resource types h o owns (subst (λ (x : ℕ). IsResource types x) (sym (stands_one types i h j stands s)) is))

-- where it is none, whether it is the resource
pub resource_refers : (types : List TypeDef) (i h j : ℕ) → Stands types i h → ((k : ℕ) → IsOwn types h k → ⊥) → ((h ≡ j) × IsResource types h → IsReference types i j) × (IsReference types i j → (h ≡ j) × IsResource types h)
resource_refers types i h j stands none = ((λ is. by_resource (subst (λ (x : ℕ). Stands types i x) is.0 stands) (subst (λ (x : ℕ). IsResource types x) is.0 is.1)), decided)
  where
    decided : IsReference types i j → (h ≡ j) × IsResource types h
    decided (by_handle g p s is t) = absurd (none p (subst (λ (x : ℕ). IsOwn types x p) (sym (stands_one types i h g stands s)) is))
    decided (by_resource s is) = (let same : h ≡ j = stands_one types i h j stands s in (same, subst (λ (x : ℕ). IsResource types x) (sym same) is))

-- what a constructor's result stands for, and its resource, decides
pub shorthand_by : (types : List TypeDef) (f : Function) (r id b : ℕ) → f.kind ≡ Constructor r → f.result ≡ Some (Id id) → Stands types r b
    → (IsReference types id b → IsShorthand types f) × (IsShorthand types f → IsReference types id b)
shorthand_by types f r id b made answers stands = (
  (λ h. record { resource = r; result = id; leaf = b; constructor = made; answers = answers; resource_stands = stands; refers = h }),
  (λ s.
      let e1 : Constructor r ≡ Constructor s.resource = sym made ∙ s.constructor in
      let er : r ≡ s.resource = cc in
      let e2 : Some (Id id) ≡ Some (Id s.result) = sym answers ∙ s.answers in
      let ei : id ≡ s.result = cc in
      let eb : b ≡ s.leaf = stands_one types r b s.leaf stands (subst (λ (x : ℕ). Stands types x s.leaf) (sym er) s.resource_stands) in
      subst (λ (x : ℕ). IsReference types x b) (sym ei) (subst (λ (x : ℕ). IsReference types s.result x) (sym eb) s.refers)),
)

-- two facts that follow from one another, one behind the other
pub both_ways : {P Q R : Type 0} → (P → Q) × (Q → P) → (Q → R) × (R → Q) → (P → R) × (R → P)
both_ways a b = ((λ p. b.0 (a.0 p)), (λ r. a.1 (b.1 r)))

and_true : (p r : Bool) → r ≡ (p && true) → r ≡ p
and_true true r e = e
and_true false r e = e

-- a test of two places, as the code has it
pub told : (a b : ℕ) (r : Bool) → r ≡ (eqb a b && true) → (IsTrue r → a ≡ b) × (a ≡ b → IsTrue r)
told a b r e =
    let h : r ≡ eqb a b = and_true (eqb a b) r e in
    ((λ t. eqb-true a b (sym h ∙ t)), (λ q. h ∙ eq-eqb a b q))
