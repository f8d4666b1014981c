-- What is so of modules behind one that is handed in.
use Rattle.std.specs.Prelude.{◌≡◌, ◌⊎◌, List, Some, true, false}
use Rattle.wit_order.specs.Order.{Has}
use Rattle.handed_modules.specs.Modules.{ModuleInput, AreApart, IsDuplicate, is_main, main_module, with_module, has_others}

pub record ModulesAreKept : Type 0 where
  -- it is there, and all else was
  pub there : (m : ModuleInput) (ms : List ModuleInput) → Has (with_module m ms) m
  pub only : (m : ModuleInput) (ms : List ModuleInput) (n : ModuleInput) → Has (with_module m ms) n → (n ≡ m) ⊎ Has ms n
  -- none is there twice
  pub apart : (m : ModuleInput) (ms : List ModuleInput) → AreApart ms → AreApart (with_module m ms)
  -- the main module is one of them, and the last that was handed in; others change nothing of that
  pub one : (ms : List ModuleInput) (m : ModuleInput) → main_module ms ≡ Some m → Has ms m × (is_main m ≡ true)
  pub main : (m : ModuleInput) (ms : List ModuleInput) → is_main m ≡ true → main_module (with_module m ms) ≡ Some m
  pub others : (m : ModuleInput) (ms : List ModuleInput) → is_main m ≡ false → main_module (with_module m ms) ≡ main_module ms
  -- where it is the main module there are other ones only if there were
  pub alone : (m : ModuleInput) (ms : List ModuleInput) → is_main m ≡ true → has_others (with_module m ms) ≡ has_others ms
  -- and where there are none, it has no other's bytes
  pub unlike : (m : ModuleInput) (ms : List ModuleInput) → is_main m ≡ true → has_others ms ≡ false → IsDuplicate ms m → ⊥
