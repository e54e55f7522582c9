use denote.Param.Members.{step_stays_lem, step_gives}
use Rattle.std.proofs.Common.{◌∙◌, refl}
use Rattle.std.proofs.lemmas.Iterator.Consumers.{YieldsList-from_first}
use Rattle.std.proofs.lemmas.Iterator.Search.{any_from_yields_List}
use Rattle.many_text.specs.View.{table_of, tables_left}
use Rattle.many_judge.proofs.Faulty.{any_same}
use Rattle.many_judge.proofs.any_table.Goals as goal

pub returns : goal.returns
returns g c = λ f h. any_from_yields_List f c.any.new.self c.args.is_faulty c.any.result c.any.ensures.ran (YieldsList-from_first table_of tables_left _ refl) (λ x b q k. (step_stays_lem _ _ _ _ _ g.met.F.Fn.1 k, h x b (step_gives _ _ _ _ _ g.met.F.FnMut.1 k))) ∙ any_same f _
