-- What the chosen world and that of the main module export.
use Rattle.std.proofs.Common.{◌≡◌, ℕ, Some, sym, ap, subst, ◌∙◌}
use Rattle.std.specs.Prelude.{slice_get}
use Rattle.std.proofs.lemmas.Option.{same_Some}
use Rattle.export_keys.specs.Keys.{ExportsMore}
use Rattle.handed_modules.specs.Modules.{ModuleInput}
use Rattle.wit_types.specs.declared.world.World.{World}
use Rattle.component_session.specs.Input.{Input, HasOthers, main_in, worlds_of}
use Rattle.component_session.specs.Refusals.{HaveWorlds, LacksExports, HasOtherExports, AreExportsSupplied}

module _ (input : Input) (w : ℕ) (main : ModuleInput) (chosen handed : World) (single : HasOthers input → ⊥) (chooses : input.world ≡ Some w) (hands : main_in input ≡ Some main)
    (chosen_is : slice_get (worlds_of input.resolved) w ≡ Some chosen) (handed_is : slice_get (worlds_of input.resolved) main.world ≡ Some handed) where
  worlds : HaveWorlds input chosen handed
  worlds = record { single = single; chosen_id = w; main = main; chooses = chooses; hands = hands; chosen_is = chosen_is; handed_is = handed_is }

  pub lacking : ExportsMore chosen handed → LacksExports input
  lacking more = (chosen, handed, worlds, more)

  pub others : ExportsMore handed chosen → HasOtherExports input
  others more = (chosen, handed, worlds, more)

  -- there are no other such worlds
  one_chosen : (x y : World) → HaveWorlds input x y → x ≡ chosen
  one_chosen x y h = same_Some x chosen (sym h.chosen_is ∙ ap (slice_get (worlds_of input.resolved)) (same_Some h.chosen_id w (sym h.chooses ∙ chooses)) ∙ chosen_is)

  one_handed : (x y : World) → HaveWorlds input x y → y ≡ handed
  one_handed x y h = same_Some y handed (sym h.handed_is ∙ ap (λ (m : ModuleInput). slice_get (worlds_of input.resolved) m.world) (same_Some h.main main (sym h.hands ∙ hands)) ∙ handed_is)

  pub supplied : (ExportsMore chosen handed → ⊥) → (ExportsMore handed chosen → ⊥) → AreExportsSupplied input
  supplied all alone = record {
    single = single;
    all = λ (x, y, have, more). all (subst (λ (a : World). ExportsMore a handed) (one_chosen x y have) (subst (λ (b : World). ExportsMore x b) (one_handed x y have) more));
    alone = λ (x, y, have, more). alone (subst (λ (a : World). ExportsMore handed a) (one_chosen x y have) (subst (λ (b : World). ExportsMore b x) (one_handed x y have) more));
  }
