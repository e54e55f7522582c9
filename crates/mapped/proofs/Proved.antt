-- The statements of NetworkStatements and ReplyStatements, proved.
use Rattle.std.specs.Prelude.{◌≡◌, refl, Bool, true, false, List, ℕ, ◌≤◌, ◌<◌, ltb, length, take, drop, replicate}
use Rattle.std.proofs.Common.{sym, ap, subst, ◌∙◌, arith, eq-eqb, lt-ltb, le-ltb}
use Rattle.std.proofs.lemmas.List.{length-replicate}
use Rattle.laws.specs.Over.{over, take-over, drop-over}
use Rattle.laws.specs.Test.{if◌then◌otherwise◌}
use Rattle.rules.specs.declared.Policy.TheVariants.{Basic}
use Rattle.rules.specs.declared.Settings.{Settings}
use Rattle.rules.specs.Form.{Reading, Good, Refused}
use Rattle.rules.specs.CircuitText.{read_circuit}
use Rattle.rules.specs.Mapper.{is_basic, used_settings, and_then, pruned, map_circuit, answer_with, mapper}
use Rattle.rules.specs.Network.{LutNode, Network, node_at, depth, node_centre, stats}
use Rattle.rules.specs.Outcome.{Answer, Outcome, outcome, written, refused}
use Rattle.rules.specs.Service.{answer_text, mapper_answer}
use Rattle.rules.specs.Store.{live, renumbered}
use Rattle.rules.specs.Writing.{network_text}
use Rattle.theorems.specs.Admissible2.{admitted_read}
use Rattle.theorems.specs.Depths.{depth-stays}
use Rattle.theorems.specs.EarlierNodes.{Ordered, pass_ordered}
use Rattle.theorems.specs.SoundTexts.{read_sound}
use Rattle.mapped.proofs.Agrees.{Delivered, delivered, text_agrees}
use Rattle.mapped.proofs.Counts.{text_counts, same_ones}
use Rattle.mapped.specs.NetworkStatements.{MapsTo, MappedAgrees, MapperAgrees, MappedFits, DepthKept, MappedDepth, MapperDepth, MappedCentre, MapperCentre, MappedCounts, MapperCounts, SettingsAlike}
use Rattle.mapped.specs.ReplyStatements.{RefusedKeeps, LaterKept, EarlierBytes, ServiceAnswer, Whole, is_written, is_unreadable, is_refused, is_over, is_too_long, MapperWhole, CapUnmet, TwoSourcesRefused}
use Rattle.mapped.proofs.Whole.{used_span, Comes, comes, whole}
use Rattle.mapped.specs.PrunedCentres.{pruning_keeps_centre}
use Rattle.mapped.specs.PrunedDepths.{pruning_keeps_depth}
use Rattle.mapped.specs.SharedDepths.{sharing_keeps_depth}
use Rattle.mapped.specs.Store.{net_for}
use Rattle.mapped.specs.TextReadBack.{admits_back}
use Rattle.mapped.proofs.Cap.{attempts, mapper_same}
use Rattle.mapped.proofs.TwoSources.{refuses}

abbrev number : Outcome → ℕ
number o = o.answer.number

abbrev count : Outcome → ℕ
count o = o.answer.count

-- an answer with number 0 is a network's text over the buffer
answered : (text buffer : List ℕ) → number (mapper text buffer) ≡ 0
    → (w : Network) × MapsTo text w × (length (network_text w) ≤ length buffer) × (mapper text buffer ≡ outcome (written (length (network_text w))) (over (network_text w) buffer))
answered text buffer e = by (whole text buffer)
  where
    by : Whole text buffer
        → (w : Network) × MapsTo text w × (length (network_text w) ≤ length buffer) × (mapper text buffer ≡ outcome (written (length (network_text w))) (over (network_text w) buffer))
    by (is_written w m l f) = (w, m, l, f)
    by (is_unreadable k line q a b c f) = absurd (let z = sym e ∙ ap number f in omega arith)
    by (is_refused c before after g st k q r t u a b d f) = absurd (let z = sym e ∙ ap number f in omega arith)
    by (is_over c st done q r t u a f) = absurd (let z = sym e ∙ ap number f in omega arith)
    by (is_too_long w m l f) = absurd (let z = sym e ∙ ap number f in omega arith)

-- what is mapped is delivered
mapped_delivered : (text : List ℕ) (w : Network) (m : MapsTo text w) → Delivered text (comes text w m).circuit w
mapped_delivered text w m =
    let c = comes text w m in
    subst (Delivered text c.circuit) c.is (delivered text c.circuit c.done (read_sound text c.circuit c.read) c.finished)

-- what is written is the text of a network that the circuit is mapped to
written_text : (text buffer : List ℕ) (n : ℕ) → (mapper text buffer).answer ≡ written n → (w : Network) × MapsTo text w × (network_text w ≡ take n (mapper text buffer).buffer)
written_text text buffer n e =
    let a = answered text buffer (ap (λ (x : Answer). x.number) e) in
    let w = a.0 in
    let long : length (network_text w) ≡ n = sym (ap count a.3) ∙ ap (λ (x : Answer). x.count) e in
    (w, a.1, sym (ap (λ (o : Outcome). take n o.buffer) a.3 ∙ take-over (network_text w) buffer n long))

pub mapped_agrees : MapperAgrees
mapped_agrees text buffer n e =
    let t = written_text text buffer n e in
    let c = comes text t.0 t.1 in
    subst (MappedAgrees text) t.2 (text_agrees text c.circuit t.0 c.read (mapped_delivered text t.0 t.1))

-- 11 is a network's text that is longer than the buffer
eleven : (text buffer : List ℕ) → number (mapper text buffer) ≡ 11 → (w : Network) × MapsTo text w × (length buffer < length (network_text w))
eleven text buffer e = by (whole text buffer)
  where
    by : Whole text buffer → (w : Network) × MapsTo text w × (length buffer < length (network_text w))
    by (is_written w m l f) = absurd (let z = sym e ∙ ap number f in omega arith)
    by (is_unreadable k line q a b c f) = absurd (let z = sym e ∙ ap number f in omega arith)
    by (is_refused c before after g st k q r t u a b d f) = absurd (let z = sym e ∙ ap number f in omega arith)
    by (is_over c st done q r t u a f) = absurd (let z = sym e ∙ ap number f in omega arith)
    by (is_too_long w m l f) = (w, m, l)

pub mapped_fits : (text : List ℕ) → MappedFits text
mapped_fits text =
    record {
      nodes = λ w m. (mapped_delivered text w m).most;
      short = λ w m. (mapped_delivered text w m).short;
      never_11 = λ buffer l e. let z = eleven text buffer e in let k = z.2 in let s = (mapped_delivered text z.0 z.1).short in omega arith;
    }

pub depth-kept : (nodes : List LutNode) → Ordered nodes → DepthKept nodes
depth-kept nodes o = record { built = depth-stays nodes; shared = sharing_keeps_depth nodes o; pruned = λ outputs. pruning_keeps_depth nodes outputs o }

network_depth : (text : List ℕ) (w : Network) → MapsTo text w → MappedDepth text (network_text w)
unfolding pruned stats
network_depth text w m =
    record {
      circuit = c.circuit;
      read = c.read;
      state = c.state;
      gates = c.gates;
      done = c.done;
      outputs = c.outputs;
      ordered = ordered;
      network = w;
      read_back = admitted_read (network_text w) w d.read_back;
      recounted = λ i l h.
          ap (λ (v : Network). depth v.nodes (renumbered (live c.done.nodes c.done.outputs) i)) (sym c.is)
          ∙ pruning_keeps_depth c.done.nodes c.done.outputs ordered i l h;
      stats = stats w;
      admits = admits_back w d.read_back;
      shown = refl;
    }
  where
    c : Comes text w
    c = comes text w m

    d : Delivered text c.circuit w
    d = mapped_delivered text w m

    ordered : Ordered c.done.nodes
    ordered = pass_ordered (net_for (used_settings c.circuit.settings)) c.done.nodes c.finished.store.passes

pub mapped_depth : MapperDepth
mapped_depth text buffer n e = let t = written_text text buffer n e in subst (MappedDepth text) t.2 (network_depth text t.0 t.1)

network_centre : (text : List ℕ) (w : Network) → MapsTo text w → MappedCentre text (network_text w)
unfolding pruned stats
network_centre text w m =
    record {
      circuit = c.circuit;
      read = c.read;
      state = c.state;
      gates = c.gates;
      done = c.done;
      outputs = c.outputs;
      network = w;
      read_back = admitted_read (network_text w) w d.read_back;
      recounted = λ i l h.
          ap (λ (v : Network). node_centre v.p (node_at v.nodes (renumbered (live c.done.nodes c.done.outputs) i))) (sym c.is)
          ∙ pruning_keeps_centre (used_settings c.circuit.settings).p c.done.nodes c.done.outputs i l h;
      stats = stats w;
      admits = admits_back w d.read_back;
      shown = (refl, refl, refl);
    }
  where
    c : Comes text w
    c = comes text w m

    d : Delivered text c.circuit w
    d = mapped_delivered text w m

pub mapped_centre : MapperCentre
mapped_centre text buffer n e = let t = written_text text buffer n e in subst (MappedCentre text) t.2 (network_centre text t.0 t.1)

network_counts : (text : List ℕ) (w : Network) → MapsTo text w → MappedCounts text (network_text w)
network_counts text w m = let c = comes text w m in text_counts text c.circuit w c.read (mapped_delivered text w m)

pub mapped_counts : MapperCounts
mapped_counts text buffer n e = let t = written_text text buffer n e in subst (MappedCounts text) t.2 (network_counts text t.0 t.1)

pub settings_alike : SettingsAlike
settings_alike text bytes text' bytes' a b e f g = sym a.doubled ∙ same_ones a.circuit b.circuit e f g ∙ b.doubled

pub cap_unmet : (text : List ℕ) → CapUnmet text
cap_unmet text = record { attempts = attempts text; idle = mapper_same text }

-- the M that Basic uses
basic_m : (s : Settings) → s.policy ≡ Basic → s.m ≡ s.p → (used_settings s).m ≡ 2
unfolding used_settings is_basic
basic_m s policy same = rw (policy, eq-eqb s.m s.p same) refl

pub two_sources_refused : (text buffer : List ℕ) → TwoSourcesRefused text buffer
two_sources_refused text buffer =
    record {
      basic = λ c g z policy same. refuses text buffer c g z (let e = basic_m c.settings policy same in omega arith);
      span = λ c g z policy two. refuses text buffer c g z (let e = ap (λ (s : Settings). s.m) (used_span c.settings policy) in omega arith);
      every = λ c g z two. refuses text buffer c g z (omega arith);
    }

pub refused_keeps : RefusedKeeps
refused_keeps text buffer h = by (whole text buffer)
  where
    by : Whole text buffer → (mapper text buffer).buffer ≡ buffer
    by (is_written w m l f) = absurd (h (ap number f))
    by (is_unreadable k line q a b c f) = ap (λ (o : Outcome). o.buffer) f
    by (is_refused c before after g st k q r t u a b d f) = ap (λ (o : Outcome). o.buffer) f
    by (is_over c st done q r t u a f) = ap (λ (o : Outcome). o.buffer) f
    by (is_too_long w m l f) = ap (λ (o : Outcome). o.buffer) f

pub later_kept : LaterKept
later_kept text buffer n e =
    let a = answered text buffer (ap (λ (x : Answer). x.number) e) in
    let w = a.0 in
    let long : length (network_text w) ≡ n = sym (ap count a.3) ∙ ap (λ (x : Answer). x.count) e in
    (let l = a.2 in omega arith, ap (λ (o : Outcome). drop n o.buffer) a.3 ∙ drop-over (network_text w) buffer n (omega arith))

same_answer : (buffer other : List ℕ) → length buffer ≡ length other → (r : Reading Network) → ((answer_with buffer r).answer ≡ (answer_with other r).answer)
    × (take (count (answer_with buffer r)) (answer_with buffer r).buffer ≡ take (count (answer_with buffer r)) (answer_with other r).buffer)
unfolding answer_with
same_answer buffer other same (Refused k line) = (refl, refl)
same_answer buffer other same (Good w) = rw same (by (ltb (length other) (length text)))
  where
    text : List ℕ
    text = network_text w

    on : List ℕ → Bool → Outcome
    on b t = if t then outcome (refused 11 0) b otherwise outcome (written (length text)) (over text b)

    by : (t : Bool) → ((on buffer t).answer ≡ (on other t).answer) × (take (count (on buffer t)) (on buffer t).buffer ≡ take (count (on buffer t)) (on other t).buffer)
    by true = (refl, refl)
    by false = (refl, take-over text buffer (length text) refl ∙ sym (take-over text other (length text) refl))

pub earlier_bytes_do_not_matter : EarlierBytes
unfolding mapper
earlier_bytes_do_not_matter text buffer other same = same_answer buffer other same (and_then (read_circuit text) map_circuit)

same_text : (o p : Outcome) → o.answer ≡ p.answer → take (count o) o.buffer ≡ take (count o) p.buffer → answer_text o ≡ answer_text p
unfolding answer_text
same_text o p e f = rw (f, e)

pub service-answer : ServiceAnswer
unfolding mapper_answer
service-answer job buffer size =
    let zeros : List ℕ = replicate 65536 0 in
    let e = earlier_bytes_do_not_matter job buffer zeros (size ∙ sym (length-replicate {A = ℕ} 65536 0)) in
    same_text (mapper job buffer) (mapper job zeros) e.0 e.1

pub mapper_whole : (text buffer : List ℕ) → MapperWhole text buffer
unfolding mapper answer_with
mapper_whole text buffer =
    record {
      one_of = whole text buffer;
      zero = (
        λ e. let a = answered text buffer e in (a.0, a.1, a.2),
        λ z. rw (z.1, le-ltb (length buffer) (length (network_text z.0)) z.2) refl,
      );
      eleven = (eleven text buffer, λ z. rw (z.1, lt-ltb (length buffer) (length (network_text z.0)) z.2) refl);
    }
