-- What is always so of the input that a session keeps.
use Rattle.std.specs.Prelude.{ℕ, ◌<◌, Bool, List, length, Option}
use Rattle.std.specs.Option.{ForSome}
use Rattle.handed_modules.specs.Modules.{ModuleInput}
use Rattle.wasm_format.specs.Module.{ModuleValue}
use Rattle.wasm_format.specs.Grammar.{IsModule}
use Rattle.text_graphs.specs.Passed.wit_resolution-Pushes.{Resolved}
use Rattle.wit_order.specs.Order.{Has}
use Rattle.wit_types.specs.declared.«package».PackageName.{PackageName}
use Rattle.text_graphs.specs.Coming.{ComeOfTexts}
use Rattle.component_session.specs.Input.{worlds_of}

pub record WellKept (eq : PackageName → PackageName → Bool) (resolved : Resolved) (world : Option ℕ) (modules : List ModuleInput) : Type 0 where
  -- the packages are those of the texts that were pushed
  pub come : ComeOfTexts eq resolved
  -- the chosen world is there
  pub chosen : ForSome world (λ w. w < length (worlds_of resolved))
  -- so is the world of each module
  pub there : (m : ModuleInput) → Has modules m → m.world < length (worlds_of resolved)
  -- which was read
  pub handed : (m : ModuleInput) → Has modules m → (core : ModuleValue) × IsModule m.bytes core
