use Rattle.std.proofs.Common.{◌≡◌, ◌++◌, map, sym, subst}
use Rattle.std.specs.Prelude.{IfOk, IfErr}
use Rattle.link_table.specs.declared.linking.Linking.{Linking}
use Rattle.link_table.specs.Cause.{IsTableCause}
use Rattle.link_table.specs.Linking.{linking_value, types_of, AreImported, exported_functions}
use Rattle.link_table.specs.Types.{HaveTrees}
use Rattle.link_table.specs.Walks.{AreChecked}
use Rattle.link_table.proofs.table.checked_links.Goals as goal

pub links-requires-clause-imported : goal.links-requires-clause-imported
links-requires-clause-imported c = subst (λ (k : Linking). AreImported (linking_value k).names (linking_value k).main.imports (map (λ f. f.now) c.args.imported.now)) (sym c.in_ok-lookup.ensures.of) c.requires.imported

pub links-requires-clause-exported : goal.links-requires-clause-exported
links-requires-clause-exported c = subst (λ (k : Linking). map (λ f. f.now) c.args.exported.now ≡ exported_functions (linking_value k).names.world) (sym c.in_ok-lookup.ensures.of) c.requires.exported

pub links-requires-clause-trees : goal.links-requires-clause-trees
links-requires-clause-trees c = subst (λ (k : Linking). HaveTrees (types_of (linking_value k)) (map (λ f. f.now) c.args.imported.now ++ map (λ f. f.now) c.args.exported.now)) (sym c.in_ok-lookup.ensures.of) c.requires.trees

pub returns-clause-links : goal.returns-clause-links
returns-clause-links c = subst (λ (k : Linking). IfOk c.links.result (λ v. AreChecked (linking_value k) (map (λ f. f.now) c.args.imported.now) (map (λ f. f.now) c.args.exported.now) v.items)) c.in_ok-lookup.ensures.of c.links.ensures.links

pub returns-clause-cause : goal.returns-clause-cause
returns-clause-cause c = subst (λ (k : Linking). IfErr c.links.result (IsTableCause (linking_value k))) c.in_ok-lookup.ensures.of c.links.ensures.cause
