-- Lines that are the forms of an admissible network are admitted, and say that network.
use Rattle.std.specs.Prelude.{◌≡◌, refl, List, [], ◌∷◌, ◌++◌, map, ℕ, ◌+◌}
use Rattle.std.proofs.Common.{sym, ap, ◌∙◌, append_assoc, append-nil}
use Rattle.std.proofs.Math.Option.{some}
use Rattle.rules.specs.Circuit.{Output}
use Rattle.rules.specs.Form.{Reading, Good, on_line, read_lines}
use Rattle.rules.specs.Network.{LutNode, Network}
use Rattle.rules.specs.NetworkText.{Net, NetworkLine, NetLine, NodeLine, OutLine, NetPrefix, started, network_line, text_conditions, safety_conditions, admission_conditions, with_network_line, with_net, network_ended, no_network}
use Rattle.theorems.specs.Admissible.{Passes, NodesPass, OutputsPass, net_of, Admissible, so_far, network}
use Rattle.theorems.specs.Readings.{NoneMet, judged_none}

-- The forms of a network's lines.
unfoldable pub forms_of : Network → List NetworkLine
forms_of w = NetLine (net_of w) ∷ (map NodeLine w.nodes ++ map OutLine w.outputs)

-- These lines are these forms.
unfoldable pub AreForms : List (List ℕ) → List NetworkLine → Type 0
AreForms [] [] = Unit {0}
AreForms [] (f ∷ fs) = ⊥
AreForms (s ∷ ls) [] = ⊥
AreForms (s ∷ ls) (f ∷ fs) = (network_line s ≡ some f) × AreForms ls fs

-- ---- Line by line.

reading : ℕ → NetPrefix → List (List ℕ) → Reading Network
reading = read_lines network_line 21 admission_conditions with_network_line network_ended

passed : (i : ℕ) (w : NetPrefix) (s : List ℕ) (l : NetworkLine) (ls : List (List ℕ)) → network_line s ≡ some l → NoneMet (admission_conditions w l)
    → reading i w (s ∷ ls) ≡ reading (i + 1) (with_network_line i w l) ls
unfolding reading read_lines on_line
passed i w s l ls e m = rw e (judged_none i (admission_conditions w l) _ m)

outputs_read : (i : ℕ) (n : Net) (ns : List LutNode) (before os : List Output) (ls : List (List ℕ)) → OutputsPass n ns before os → AreForms ls (map OutLine os)
    → reading i (so_far n ns before) ls ≡ Good (network n ns (before ++ os))
unfolding OutputsPass AreForms Passes reading read_lines network_ended with_net with_network_line
outputs_read i n ns before [] [] p f = ap (λ os. Good (network n ns os)) (sym (append-nil before))
outputs_read i n ns before [] (s ∷ ls) p f = absurd f
outputs_read i n ns before (o ∷ os) [] p f = absurd f
outputs_read i n ns before (o ∷ os) (s ∷ ls) p f =
    passed i (so_far n ns before) s (OutLine o) ls f.0 p.0.0
    ∙ outputs_read (i + 1) n ns (before ++ (o ∷ [])) os ls p.1 f.1
    ∙ ap (λ os. Good (network n ns os)) (append_assoc before (o ∷ []) os)

nodes_read : (i : ℕ) (n : Net) (before ns : List LutNode) (os : List Output) (ls : List (List ℕ)) → NodesPass n before ns → OutputsPass n (before ++ ns) [] os
    → AreForms ls (map NodeLine ns ++ map OutLine os) → reading i (so_far n before []) ls ≡ Good (network n (before ++ ns) os)
unfolding NodesPass AreForms Passes with_network_line
nodes_read i n before [] os ls p q f = rw append-nil (outputs_read i n before [] os ls (rw append-nil at q) f)
nodes_read i n before (x ∷ ns) os [] p q f = absurd f
nodes_read i n before (x ∷ ns) os (s ∷ ls) p q f =
    let e = append_assoc before (x ∷ []) ns in
    passed i (so_far n before []) s (NodeLine x) ls f.0 p.0.0
    ∙ nodes_read (i + 1) n (before ++ (x ∷ [])) ns os ls p.1 (rw e q) f.1
    ∙ ap (λ ms. Good (network n ms os)) e

pub admissible_admitted : (w : Network) (ls : List (List ℕ)) → Admissible w → AreForms ls (forms_of w)
    → read_lines network_line 21 admission_conditions with_network_line network_ended 1 no_network ls ≡ Good w
unfolding forms_of AreForms reading with_network_line no_network net_of NoneMet admission_conditions text_conditions safety_conditions started
admissible_admitted w [] a f = absurd f
admissible_admitted w (s ∷ ls) a f =
    passed 1 no_network s (NetLine (net_of w)) ls f.0 (rw a.limits refl, (refl, tt))
    ∙ nodes_read 2 (net_of w) [] w.nodes w.outputs ls a.nodes a.outputs f.1
