-- The lines of an edition 2 text that meet no condition: what is known of them, and that they say the network.
use Rattle.std.specs.Prelude.{◌≡◌, refl, List, [], ◌∷◌, ◌++◌, map, ℕ, ◌+◌}
use Rattle.std.proofs.Common.{sym, ap, subst, ◌∙◌, append_assoc, append-nil}
use Rattle.std.proofs.Math.Option.{some}
use Rattle.rules.specs.Circuit.{Output}
use Rattle.rules.specs.Edition2.{Line2, Plain, Many, table_node, line2, text_conditions2, safety_conditions2, conditions2, with_line2}
use Rattle.rules.specs.Form.{Reading, Good, on_line, read_lines}
use Rattle.rules.specs.Network.{LutNode, Network}
use Rattle.rules.specs.NetworkText.{Net, NetLine, NodeLine, OutLine, NetPrefix, started, text_conditions, safety_conditions, admission_conditions, with_network_line, with_net, network_ended, no_network}
use Rattle.theorems.specs.Admissible.{Passes, OutputsPass, net_of, Admissible, network, so_far}
use Rattle.theorems.specs.Readings.{NoneMet, judged_none}

-- ---- Node lines in turn.

unfoldable pub nodes_of : Line2 → List LutNode
nodes_of (Plain (NetLine n)) = []
nodes_of (Plain (NodeLine x)) = x ∷ []
nodes_of (Plain (OutLine o)) = []
nodes_of (Many i ts) = map (table_node i) ts

unfoldable pub expand : List Line2 → List LutNode
expand [] = []
expand (l ∷ ls) = nodes_of l ++ expand ls

-- A line of nodes that meets no condition after these.
unfoldable pub LinePasses : Net → List LutNode → Line2 → Type 0
LinePasses n before (Plain (NetLine m)) = ⊥
LinePasses n before (Plain (NodeLine x)) = NoneMet (admission_conditions (so_far n before []) (NodeLine x))
LinePasses n before (Plain (OutLine o)) = ⊥
LinePasses n before (Many i ts) = NoneMet (conditions2 (so_far n before []) (Many i ts))

unfoldable pub LinesPass : Net → List LutNode → List Line2 → Type 0
LinesPass n before [] = Unit {0}
LinesPass n before (l ∷ ls) = LinePasses n before l × LinesPass n (before ++ nodes_of l) ls

-- ---- Lines that are forms say the network.

unfoldable pub AreForms2 : List (List ℕ) → List Line2 → Type 0
AreForms2 [] [] = Unit {0}
AreForms2 [] (f ∷ fs) = ⊥
AreForms2 (s ∷ ls) [] = ⊥
AreForms2 (s ∷ ls) (f ∷ fs) = (line2 s ≡ some f) × AreForms2 ls fs

abbrev pub outs : List Output → List Line2
outs os = map (λ (o : Output). Plain (OutLine o)) os

unfoldable pub reading : ℕ → NetPrefix → List (List ℕ) → Reading Network
reading = read_lines line2 21 conditions2 with_line2 network_ended

passed : (i : ℕ) (w : NetPrefix) (s : List ℕ) (l : Line2) (ls : List (List ℕ)) → line2 s ≡ some l → NoneMet (conditions2 w l)
    → reading i w (s ∷ ls) ≡ reading (i + 1) (with_line2 i w l) ls
unfolding reading read_lines on_line
passed i w s l ls e m = rw e (judged_none i (conditions2 w l) _ m)

outputs_read : (i : ℕ) (n : Net) (ns : List LutNode) (before os : List Output) (ls : List (List ℕ)) → OutputsPass n ns before os → AreForms2 ls (outs os)
    → reading i (so_far n ns before) ls ≡ Good (network n ns (before ++ os))
unfolding OutputsPass AreForms2 Passes reading read_lines network_ended with_net with_line2 with_network_line conditions2 text_conditions2 safety_conditions2 admission_conditions
outputs_read i n ns before [] [] p f = ap (λ os. Good (network n ns os)) (sym (append-nil before))
outputs_read i n ns before [] (s ∷ ls) p f = absurd f
outputs_read i n ns before (o ∷ os) [] p f = absurd f
outputs_read i n ns before (o ∷ os) (s ∷ ls) p f =
    passed i (so_far n ns before) s (Plain (OutLine o)) ls f.0 p.0.0
    ∙ outputs_read (i + 1) n ns (before ++ (o ∷ [])) os ls p.1 f.1
    ∙ ap (λ os. Good (network n ns os)) (append_assoc before (o ∷ []) os)

line_read : (i : ℕ) (n : Net) (before : List LutNode) (s : List ℕ) (l : Line2) (ls : List (List ℕ)) → line2 s ≡ some l → LinePasses n before l
    → reading i (so_far n before []) (s ∷ ls) ≡ reading (i + 1) (so_far n (before ++ nodes_of l) []) ls
unfolding LinePasses nodes_of with_line2 with_network_line conditions2 text_conditions2 safety_conditions2 admission_conditions
line_read i n before s (Plain (NetLine m)) ls e p = absurd p
line_read i n before s (Plain (NodeLine x)) ls e p = passed i (so_far n before []) s (Plain (NodeLine x)) ls e p
line_read i n before s (Plain (OutLine o)) ls e p = absurd p
line_read i n before s (Many j ts) ls e p = passed i (so_far n before []) s (Many j ts) ls e p

nodes_read : (i : ℕ) (n : Net) (before : List LutNode) (fs : List Line2) (os : List Output) (ls : List (List ℕ)) → LinesPass n before fs
    → OutputsPass n (before ++ expand fs) [] os → AreForms2 ls (fs ++ outs os) → reading i (so_far n before []) ls ≡ Good (network n (before ++ expand fs) os)
unfolding LinesPass AreForms2 expand
nodes_read i n before [] os ls p q f = rw append-nil (outputs_read i n before [] os ls (rw append-nil at q) f)
nodes_read i n before (x ∷ fs) os [] p q f = absurd f
nodes_read i n before (x ∷ fs) os (s ∷ ls) p q f =
    let e = append_assoc before (nodes_of x) (expand fs) in
    line_read i n before s x ls f.0 p.0 ∙ nodes_read (i + 1) n (before ++ nodes_of x) fs os ls p.1 (rw e q) f.1
    ∙ ap (λ ms. Good (network n ms os)) e

pub lines_read : (w : Network) (fs : List Line2) (ls : List (List ℕ)) → Admissible w → LinesPass (net_of w) [] fs → expand fs ≡ w.nodes
    → AreForms2 ls (Plain (NetLine (net_of w)) ∷ (fs ++ map (λ (o : Output). Plain (OutLine o)) w.outputs))
    → read_lines line2 21 conditions2 with_line2 network_ended 1 no_network ls ≡ Good w
unfolding AreForms2 reading with_line2 with_network_line no_network net_of NoneMet conditions2 text_conditions2 safety_conditions2 text_conditions safety_conditions started
lines_read w fs [] a p e f = absurd f
lines_read w fs (s ∷ ls) a p e f =
    passed 1 no_network s (Plain (NetLine (net_of w))) ls f.0 (rw a.limits refl, (refl, tt))
    ∙ nodes_read 2 (net_of w) [] fs w.outputs ls p (subst (λ ns. OutputsPass (net_of w) ns [] w.outputs) (sym e) a.outputs) f.1
    ∙ ap (λ ns. Good (network (net_of w) ns w.outputs)) e
