-- Nothing is asked for that is still to come.
use Rattle.std.proofs.Common.{◌≡◌, ℕ, Bool, true, false, List, Option, Some, None, sym, subst, ◌∙◌}
use Rattle.std.specs.Prelude.{slice_get}
use Rattle.wasm_types.specs.Entries.{ImportValue}
use Rattle.wit_order.specs.Order.{Has}
use Rattle.wit_types.specs.declared.function.Function.{Function}
use Rattle.wit_types.specs.declared.mangling.AbiVariant.TheVariants.{GuestImport}
use Rattle.wit_types.specs.declared.world_key.WorldKey.{WorldKey}
use Rattle.link_table.specs.Apart.{AreNoneApart}
use Rattle.link_table.specs.Coming.{IsToCome, IsSomewhere, outer_memory, resource_intrinsic, with_options, exported_interface, hook, initialize, post_return}
use Rattle.link_table.specs.Linking.{Linking, types_of, StandsForFunction, AreImported, AreFunctions, exported_functions}
use Rattle.link_table.specs.Options.{Naming, IsMissing}
use Rattle.link_table.specs.Types.{Requires}
use Rattle.link_table.specs.Walks.{ArePlain}
use Rattle.link_table.proofs.Pairwise.{placed, beside}
use Rattle.link_table.proofs.Standing.{one_function, no_intrinsic}

not_both : {Z : Type 0} (b : Bool) → b ≡ true → b ≡ false → Z
not_both b t f = absurd (let e : true ≡ false = sym t ∙ f in cc)

nowhere : {Z : Type 0} (l : Linking) (Is : Naming) → IsMissing l Is → IsSomewhere l Is → Z
nowhere l Is missing s = (let p = placed l.main.exports s.export s.there in absurd (missing p.0 s.export p.1 s.named))

module _ (l : Linking) (imported : List Function) (are : AreImported l.names l.main.imports imported) (plain : ArePlain l l.main.imports imported)
    (only : AreFunctions l.names.world) (apart : AreNoneApart l (exported_functions l.names.world)) where
  abbrev Stands : ImportValue → Function → Type 0
  Stands i f = (key : Option WorldKey) × StandsForFunction l.names i key f

  -- what a core import stands for
  stands : (i : ImportValue) → Has l.main.imports i → (k : ℕ) × (f : Function) × (slice_get l.main.imports k ≡ Some i) × (slice_get imported k ≡ Some f) × Stands i f
  stands i h = (let b = beside Stands l.main.imports imported i are h in (b.0, b.1, b.2, b.3, are.each b.0 i b.1 b.2 b.3))

  pub nothing_to_come : IsToCome l → ⊥
  nothing_to_come (outer_memory i h outer) = (let s = stands i h in not_both _ outer s.4.1.means.inner)
  nothing_to_come (resource_intrinsic i key resource what h is) = (let s = stands i h in no_intrinsic l.names i s.4.0 key s.1 resource what s.4.1 is)
  nothing_to_come (with_options i key f r o h is asked asking there) =
      let s = stands i h in
      let same : f ≡ s.1 = one_function l.names i key s.4.0 f s.1 is s.4.1 in
      not_both _ asking ((plain s.0 i s.1 s.2 s.3).plain r (subst (λ (g : Function). Requires (types_of l) GuestImport g r) same asked))
  nothing_to_come (exported_interface e h none) = (let f = only e h in absurd (let g : None ≡ Some f.0 = sym none ∙ f.1 in cc))
  nothing_to_come (hook s) = nowhere l _ apart.hook s
  nothing_to_come (initialize s) = nowhere l _ apart.initialize s
  nothing_to_come (post_return f h s) = nowhere l _ (apart.post_returns f h) s
