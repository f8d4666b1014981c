-- One world more.
use Rattle.std.proofs.Common.{◌≡◌, ℕ, ◌<◌, ◌+◌, ◌⊎◌, List, [], ◌∷◌, ◌++◌, inl, inr, refl, sym, ap, ◌∙◌, subst, arith, length, length-append, append_assoc}
use Rattle.wit_types.specs.Passed.wit_order-Order.{Has}
use Rattle.wit_types.specs.Passed.wit_order-Places.{Rows}
use Rattle.wit_types.specs.declared.interface.Interface.{Interface}
use Rattle.wit_types.specs.declared.interface.TypeDef.{TypeDef}
use Rattle.wit_types.specs.declared.world.World.{World}
use Rattle.wit_reach.specs.Ids.{side_ids}
use Rattle.wit_reach.specs.Lists.{AreInterfacesThere, AreOwnersThere}
use Rattle.wit_reach.specs.Types.{AreTypesBackward, AreTypesThere, AreSidesThere}
use Rattle.wit_reach.specs.declared.reach.ElaborateFault.{ElaborateFault}
use Rattle.wit_reach.specs.declared.reach.ElaborateFault.TheVariants as conflict
use Rattle.wit_elaborated.specs.Worlds.{AreKeysOfItems, IsElaboratedCause}
use Rattle.wit_uses.specs.Passed.wit_plans-declared-moves-MovedWorld.{MovedWorld}
use Rattle.wit_uses.specs.Passed.wit_placed-There.{IsOwnThere}
use Rattle.wit_uses.specs.Passed.wit_joined-Joined.{AreWorldsThere, IsJoinedWorld}
use Rattle.wit_graph_worlds.specs.Worlds.{State, Worlds}
use Rattle.wit_graph_worlds.specs.Sound.{AreSound, IsWorldThere}
use Rattle.wit_graph_worlds.specs.Added.{fault_at, IsPut, IsPutCause, IsAddCause}
use Rattle.wit_graph_worlds.specs.declared.worlds.WorldFault.{WorldFault}
use Rattle.wit_graph_worlds.specs.declared.worlds.WorldFault.TheVariants.{ItemNotFound, IncludeClash, ExportConflict, OutOfMemory}
use Rattle.wit_graph_worlds.proofs.Alike.{sides_there, interfaces_there, keys_there}
use Rattle.wit_graph_worlds.proofs.Including.{AreNamed, IsJoinedNamed, joined_named}

-- ---- more types leave what is there

pub types_more : (types more : List TypeDef) (ids : List ℕ) → AreTypesThere types ids → AreTypesThere (types ++ more) ids
types_more types more ids a = λ i h. (let l : i < length types = a i h in let n : length (types ++ more) ≡ length types + length more = length-append types more in omega (arith, l, n))

worlds_more : (types more : List TypeDef) (worlds : List World) → AreWorldsThere types worlds → AreWorldsThere (types ++ more) worlds
worlds_more types more worlds a = λ w h. (let s = a w h in (types_more types more (side_ids w.imports.entries) s.0, types_more types more (side_ids w.exports.entries) s.1))

own_more : (types more : List TypeDef) (n : ℕ) (m : MovedWorld) → IsOwnThere types n m → IsOwnThere (types ++ more) n m
own_more types more n m a = record {
  imports = record { types_are = types_more types more (side_ids m.imports.items) a.imports.types_are; interfaces_are = a.imports.interfaces_are };
  exports = record { types_are = types_more types more (side_ids m.exports.items) a.exports.types_are; interfaces_are = a.exports.interfaces_are };
  keys = a.keys;
}

pub own_grown : (types new more : List TypeDef) (n : ℕ) (m : MovedWorld) → new ≡ types ++ more → IsOwnThere types n m → IsOwnThere new n m
own_grown types new more n m e a = subst (λ (ds : List TypeDef). IsOwnThere ds n m) (sym e) (own_more types more n m a)

-- what grows twice has grown
pub grown_more : {X : Type 0} (first now new : List X) → (more : List X) × (now ≡ first ++ more) → (more : List X) × (new ≡ now ++ more) → (more : List X) × (new ≡ first ++ more)
grown_more first now new a b = (a.0 ++ b.0, b.1 ∙ (ap (λ xs. xs ++ b.0) a.1 ∙ append_assoc first a.0 b.0))

-- ---- the worlds with one more

has_one_more : (ws : List World) (v w : World) → Has (ws ++ v ∷ []) w → (w ≡ v) ⊎ Has ws w
has_one_more [] v w h = h
has_one_more (u ∷ ws) v w h =
    elim h as (λ _. (w ≡ v) ⊎ Has (u ∷ ws) w) [
      | inl here ↦ inr (inl here)
      | inr later ↦ elim (has_one_more ws v w later) as (λ _. (w ≡ v) ⊎ Has (u ∷ ws) w) [ inl a ↦ inl a | inr b ↦ inr (inr b) ]
    ]

pub each_of : (P : World → Type 0) (ws : List World) (v : World) → ((w : World) → Has ws w → P w) → P v → (w : World) → Has (ws ++ v ∷ []) w → P w
each_of P ws v all one w h = elim (has_one_more ws v w h) as (λ _. P w) [ inl e ↦ subst P (sym e) one | inr was ↦ all w was ]

named_of : (n : ℕ) (types : List TypeDef) (w : Worlds) → AreSound n types w → AreNamed n w.listed
named_of n types w sound = record { interfaces = sound.interfaces; keys = sound.keys }

pub joined_there : (n owner : ℕ) (types new : List TypeDef) (w : Worlds) (m : MovedWorld) (joined : World) → AreSound n types w → IsOwnThere types n m → IsJoinedWorld w.listed (length w.listed) owner m types new joined → IsJoinedNamed n new joined
joined_there n owner types new w m joined sound own is = joined_named n w.listed (length w.listed) owner m types new joined (named_of n types w sound) sound.owners own is

pub sound_more : (n : ℕ) (interfaces : List Interface) (uses : Rows) (types more new : List TypeDef) (old w : Worlds) (joined : World) → new ≡ types ++ more → AreSound n types old
    → AreTypesBackward new → AreOwnersThere n new → IsWorldThere n new joined → IsPut interfaces uses new joined old w → AreSound n new w
sound_more n interfaces uses types more new old w joined grown sound backward owners one put =
    let there : AreWorldsThere new old.listed = subst (λ (ds : List TypeDef). AreWorldsThere ds old.listed) (sym grown) (worlds_more types more old.listed sound.there) in
    let many : length old.elaborated ≡ length old.listed = sound.so_many in
    let listed = put.listed in
    record {
      backward = backward;
      owners = owners;
      there = subst (AreWorldsThere new) (sym put.listed_are) (each_of (AreSidesThere new) old.listed listed there (sides_there new joined listed put.is_listed one.sides));
      interfaces = subst (λ (ws : List World). (v : World) → Has ws v → AreInterfacesThere n v) (sym put.listed_are) (each_of (AreInterfacesThere n) old.listed listed sound.interfaces (interfaces_there n joined listed put.is_listed one.interfaces));
      keys = subst (λ (ws : List World). (v : World) → Has ws v → AreKeysOfItems v.imports.entries) (sym put.listed_are) (each_of (λ (v : World). AreKeysOfItems v.imports.entries) old.listed listed sound.keys (keys_there joined listed put.is_listed one.keys));
      so_many = ap length put.elaborated_are ∙ (length-append old.elaborated (put.elaborated ∷ []) ∙ (ap (λ (k : ℕ). k + 1) many ∙ (sym (length-append old.listed (listed ∷ [])) ∙ ap length (sym put.listed_are))));
    }

-- ---- where it stands

pub at_place : (P : List World → ℕ → Type 0) (worlds ws : List World) (id : ℕ) → ws ≡ worlds → id ≡ length worlds → P ws id → P worlds (length worlds)
at_place P worlds ws id e last h = subst (P worlds) last (subst (λ (l : List World). P l id) e h)

-- ---- refusals

module _ (interfaces : List Interface) (uses : Rows) (owner : ℕ) (m : MovedWorld) (s : State) where
  pub put_cause : (types : List TypeDef) (joined : World) (fault : WorldFault) → IsJoinedWorld s.worlds.listed (length s.worlds.listed) owner m s.types types joined → IsPutCause uses types joined fault → IsAddCause interfaces uses owner m s fault
  put_cause types joined (ItemNotFound at) is h = absurd h
  put_cause types joined (IncludeClash at) is h = absurd h
  put_cause types joined (ExportConflict i at) is h = (record { types = types; joined = joined; is_joined = is; conflict = h.0 }, h.1 ∙ is.span)
  put_cause types joined OutOfMemory is h = tt

pub elaborated_cause : (uses : Rows) (types : List TypeDef) (joined : World) (fault : ElaborateFault) → IsElaboratedCause types uses joined fault → IsPutCause uses types joined (fault_at fault joined.span)
elaborated_cause uses types joined (conflict.ExportConflict i) h = (h, refl)
elaborated_cause uses types joined conflict.OutOfMemory h = tt
