-- The whole text of edition 2.
use Rattle.std.specs.Prelude.{List, ◌++◌, map, ℕ, None}
use Rattle.forms.specs.Forms.{output_of}
use Rattle.forms.specs.declared.Net.{Net}
use Rattle.rules.specs.Circuit.{Output}
use Rattle.rules.specs.Writing.{outputs_text}
use Rattle.nodes.specs.declared.store.Store.{Store}
use Rattle.nodes.specs.Store.{store_of}
use Rattle.lines.specs.Lines2.{net2_text}
use Rattle.writer.specs.declared.Text.{Text}
use Rattle.writer.specs.Live.{NewNumbers}
use Rattle.writer.specs.Outputs.{live_outputs}
use Rattle.writer2.specs.Stream.{stream}
use Rattle.writer2.specs.Node2.{ordered}

unfoldable pub text2 : Net → List Output → Store → NewNumbers → List ℕ → List ℕ
text2 n os store live order =
    net2_text n.p n.m n.norm ++ stream n.p None (ordered live (store_of store) order) ++ outputs_text (live_outputs live os)

-- of a text's parts
abbrev pub written2 : Text → List ℕ → List ℕ
written2 t order = text2 t.net (map output_of t.outputs.now) t.store.now t.live.now order
