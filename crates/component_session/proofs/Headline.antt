-- What is answered for a linking, said of its input.
use Rattle.std.proofs.Common.{List, ℕ, ap, inl, inr, ◌∙◌}
use Rattle.wit_component.specs.Passed.known_definitions-Component.{IsComponent}
use Rattle.wit_component.specs.Passed.known_definitions-Component.{Fits}
use Rattle.component_session.specs.Input.{Input, IsLinkingOf, IsWideLinkingOf}
use Rattle.wit_component.specs.Linking.{Linking}
use Rattle.wit_component.specs.Cause.{IsLinkable}
use Rattle.component_session.specs.Refusals.{AreExportsSupplied, IsWide, OptionsBeyond, IsReady}
use Rattle.linked_components.specs.Passed.link_table-Linking.{Linking as WideLinking}
use Rattle.linked_components.specs.Build.{HasLines, IsComponentOf}
use Rattle.wit_component.specs.Component.{component_of}
use Rattle.component_session.specs.Headline.{IsRight, IsBuilt, IsLinkTable, IsJudged, IsVerdict}
use Rattle.component_audit.specs.Judged.{IsBeyond, Says}
use Rattle.component_audit.specs.declared.verdict.Verdict.{Verdict}
use Rattle.component_audit.specs.declared.verdict.Verdict.TheVariants.{Yes, Finding}
use Rattle.link_lines.specs.Line.{LinkValue}
use Rattle.wit_component.specs.Links.{AreLinks}
use Rattle.wit_component.proofs.Passed.known_definitions-Laws.{one_list}
use Rattle.wit_component.specs.Meaning.{Spaces, meaning}
use Rattle.wit_component.proofs.Right.{written}
use Rattle.wit_component.proofs.Right.{written_meets}
use Rattle.wit_component.specs.Table.{IsLinked}

pub written_right : (input : Input) (l : Linking) (bytes : List ℕ) → IsLinkingOf input l → IsLinked l → IsComponent bytes (component_of l) → IsRight input bytes
written_right input l bytes links h format = record { linking = l; links_input = links; definitions = component_of l; format = format; meets = written_meets l h }

says : (input : Input) (l : Linking) (bytes : List ℕ) (verdict : Verdict) → IsLinkingOf input l → Says l bytes verdict → IsVerdict input l bytes verdict
says input l bytes Yes links (ds, is, meets) = record { linking = l; links_input = links; definitions = ds; format = is; meets = meets }
says input l bytes (Finding kind offset) links h = h

-- ---- plain functions

module _ (input : Input) (l : Linking) (links : IsLinkingOf input l) (exports : AreExportsSupplied input) (plain : IsWide input → ⊥) where
  ready : IsLinkable l → IsReady input l
  ready linkable = record { links_input = links; exports = exports; plain = plain; linkable = linkable }

  pub built : (bytes : List ℕ) → IsLinkable l → Fits (component_of l) → IsComponent bytes (component_of l) → IsBuilt input bytes
  built bytes linkable fits is = inl (record {
    linking = l;
    ready = ready linkable;
    fits = λ large. large fits;
    right = written_right input l bytes links linkable.linked is;
    imports = λ ds h. ap (λ es. (meaning l.main es).imports) (one_list bytes ds (component_of l) h is) ∙ ap (λ (s : Spaces). s.imports) (written l linkable.linked);
  })

  pub judged : (bytes : List ℕ) (verdict : Verdict) → (IsBeyond l bytes → ⊥) → Says l bytes verdict → IsLinkable l → IsJudged input bytes verdict
  judged bytes verdict within h linkable = record { linking = l; ready = ready linkable; here = within; says = says input l bytes verdict links h }

  pub listed : (found : List LinkValue) → AreLinks l found → IsLinkable l → IsLinkTable input found
  listed found h linkable = IsLinkTable.plain (record { linking = l; ready = ready linkable; links = h })

-- ---- all that a world has

module _ (input : Input) (l : WideLinking) (links : IsWideLinkingOf input l) (exports : AreExportsSupplied input) (wide : IsWide input) (options : OptionsBeyond input → ⊥) where
  pub wide_listed : (found : List LinkValue) → HasLines l found → IsLinkTable input found
  wide_listed found (t, is, lines) = IsLinkTable.wide (record { linking = l; ready = record { links_input = links; exports = exports; wide = wide; options = options; table = t; is = is }; links = lines })

  pub wide_built : (bytes : List ℕ) → IsComponentOf l links.handed.bytes bytes → IsBuilt input bytes
  wide_built bytes (t, is, right) = inr (record { linking = l; ready = record { links_input = links; exports = exports; wide = wide; options = options; table = t; is = is }; right = right })
