-- A line with no fault, put behind those before it: the lines so far stand for the lines with it.
use Rattle.std.specs.Prelude as P
use Rattle.std.specs.Prelude.{◌≡◌, Bool, true, false, ◌||◌, List, [], ◌∷◌, ◌++◌, map, ℕ, ◌+◌, ◌<◌, ◌≤◌, leb, ltb, length, All}
use Rattle.std.proofs.Common.{refl, sym, ap, subst, ◌∙◌, ⊎_elim, arith, true≢false, eqb-true, leb-false}
use Rattle.std.proofs.Math.Option.{Option, none, some}
use Rattle.std.proofs.lemmas.List.{length-map, map-append, length-append}
use borrow.Author.Tests.{lt-leb, lt-ltb, le-ltb}
use Rattle.laws.specs.Test.{if◌then◌otherwise◌, is_some, lt_or_le, neither_left, neither_right}
use Rattle.rules.specs.declared.Wire.{Wire}
use Rattle.rules.specs.declared.Wire.TheVariants.{Const, Node}
use Rattle.rules.specs.Builder.{table_limits}
use Rattle.rules.specs.CircuitText.{no_node}
use Rattle.rules.specs.Rotation.{centre_of}
use Rattle.rules.specs.Network as W
use Rattle.rules.specs.Network.{LutNode, Input, Linear, Bootstrap, is_input, is_linear, node_at, node_centre}
use Rattle.rules.specs.NetworkText.{NetworkLine, NodeLine, network_line, started, all_inputs, unknown, any_bad_source, with_network_line}
use Rattle.theorems.specs.Counts.{count_snoc, count_most}
use Rattle.theorems.specs.LineBits.{LineBits, line-bits}
use Rattle.theorems.specs.NodesAt.{node-before, node_next}
use Rattle.theorems.specs.Pieces.{from_length}
use Rattle.forms.specs.Forms.{given_of, output_of}
use Rattle.forms.specs.declared.Input as G
use Rattle.forms.specs.declared.Net.{Net}
use Rattle.forms.specs.declared.Output.{Output}
use Rattle.nodes.specs.Store.{store_of, store_few, Adds}
use Rattle.nodes.specs.Terms.{terms_in}
use Rattle.nodes.specs.declared.store.Store.{Store}
use Rattle.nodes.specs.declared.terms.Terms.{Terms}
use Rattle.network_bounds.specs.Bounds.{good_known}
use Rattle.network_text.specs.Lines.{net_of, line_of, good_line, Within, LineRead}
use Rattle.network_text.specs.Table.{bits_of}
use Rattle.network_text.specs.declared.table.TableText.{TableText}
use Rattle.network_text.specs.declared.line.Line.{Line}
use Rattle.network_text.specs.declared.line.Line.TheVariants as L
use Rattle.network_judge.specs.Conditions.{line_conditions}
use Rattle.network_judge.specs.Holds.{Sound, AllSound, InputsFirst, GoodOutput, Holds}
use Rattle.network_judge.specs.View.{net_so_far, prefix_of}
use Rattle.network_judge.specs.declared.network.Network.{Network}
use Rattle.network.specs.Put.{InputRoom, Has, Ready, Follows, period}
use Rattle.network.specs.Verdict.{refusal, with_form, good_refusal, good_refusal_lem, good_same, net_limits, net-first, node-started, node_room, inputs-only, sum_sound, boot_known, out_known}
use Rattle.text.specs.Judged.{lowest}

-- ---- One node more.

module _ (ns : List LutNode) (n : LutNode) where
  sources_more : (is : List ℕ) → any_bad_source ns is ≡ false → any_bad_source (ns ++ (n ∷ [])) is ≡ false
  unfolding any_bad_source unknown
  sources_more [] e = refl
  sources_more (i ∷ is) e =
      let bad = leb (length ns) i || is_linear (node_at ns i) in
      let a = neither_left bad (any_bad_source ns is) e in
      let l : i < length ns = leb-false (length ns) i (neither_left (leb (length ns) i) (is_linear (node_at ns i)) a) in
      rw (
        node-before ns (n ∷ []) i l,
        neither_right (leb (length ns) i) (is_linear (node_at ns i)) a,
        lt-leb (length (ns ++ (n ∷ []))) i (omega (arith, length-append ns (n ∷ []))),
        sources_more is (neither_right bad (any_bad_source ns is) e),
      )

  sound_more : (m : LutNode) → Sound ns m → Sound (ns ++ (n ∷ [])) m
  unfolding Sound
  sound_more (Input g) s = tt
  sound_more (Linear c ts) s = (s.0, sources_more _ s.1)
  sound_more (Bootstrap i table) s = s

  sound_push : AllSound ns → Sound ns n → AllSound (ns ++ (n ∷ []))
  sound_push f s i l =
      ⊎_elim
      (λ (h : i < length ns). subst (Sound (ns ++ (n ∷ []))) (sym (node-before ns (n ∷ []) i h)) (sound_more (node_at ns i) (f i h)))
      (λ (h : length ns ≤ i). let e : length ns ≡ i = omega (arith, length-append ns (n ∷ [])) in subst (Sound (ns ++ (n ∷ []))) (sym (node_next ns n [] i e)) (sound_more n s))
      (lt_or_le i (length ns))

-- an input comes only while all nodes are inputs: so they stay in front
module _ (ns : List LutNode) (n : LutNode) {inputs i : ℕ} (few : inputs ≤ length ns) (all : is_input n ≡ true → inputs ≡ length ns)
    (e : i ≡ inputs + (if is_input n then 1 otherwise 0)) where
  old-first : (b : Bool) → is_input n ≡ b → (j : ℕ) → j < length ns → ltb j inputs ≡ ltb j i
  old-first true q j h =
      let one : i ≡ inputs + 1 = rw q at e in
      let m = all q in
      lt-ltb j inputs (omega arith) ∙ sym (lt-ltb j i (omega arith))
  old-first false q j h = let none : i ≡ inputs + 0 = rw q at e in ap (ltb j) (omega (arith, none))

  new-first : (b : Bool) → is_input n ≡ b → is_input n ≡ ltb (length ns) i
  new-first true q = let one : i ≡ inputs + 1 = rw q at e in let m = all q in q ∙ sym (lt-ltb (length ns) i (omega arith))
  new-first false q = let none : i ≡ inputs + 0 = rw q at e in q ∙ sym (le-ltb (length ns) i (omega arith))

  first_push : InputsFirst ns inputs → InputsFirst (ns ++ (n ∷ [])) i
  first_push f j l =
      ⊎_elim (λ (h : j < length ns). rw (node-before ns (n ∷ []) j h) (f j h ∙ old-first (is_input n) refl j h))
      (λ (h : length ns ≤ j). let c : length ns ≡ j = omega (arith, length-append ns (n ∷ [])) in rw (node_next ns n [] j c) (new-first (is_input n) refl ∙ ap (λ k. ltb k i) c))
      (lt_or_le j (length ns))

few_push : (b : Bool) {inputs i : ℕ} → inputs ≤ 32 → (b ≡ true → inputs < 32) → i ≡ inputs + (if b then 1 otherwise 0) → i ≤ 32
few_push true l f e = let s = f refl in omega arith
few_push false l f e = omega arith

known_more : (count : ℕ) (w : Wire) → no_node count w ≡ false → no_node (count + 1) w ≡ false
unfolding no_node
known_more count (Const b) e = refl
known_more count (Node i) e = let l = leb-false count i e in lt-leb (count + 1) i (omega arith)

good_more : (count : ℕ) (os : List Output) → All (GoodOutput count) os → All (GoodOutput (count + 1)) os
good_more count os h k d l = let g = h k d l in record { name = g.name; known = known_more count (P.get_or os k d).wire g.known; bit = g.bit }

-- ---- It holds with one line more.

Limited : P.Option Net → Type 0
Limited P.None = Unit {0}
Limited (P.Some m) = table_limits m.p m.m ≡ true

module _ {net : P.Option Net} {store : Store} {inputs : ℕ} {outs : List Output} (k : Holds net store inputs outs) where
  pub holds_node : P.IsSome net → (after : Store) (c : ℕ) (n : LutNode) → Adds c n store after → ((m : Net) → net ≡ P.Some m → c ≡ node_centre m.p n) → Sound (store_of store) n
      → (is_input n ≡ true → InputRoom store inputs) → {i : ℕ} → i ≡ inputs + (if is_input n then 1 otherwise 0) → Holds net after i outs
  holds_node z after c n a q s r {i} e =
      let few : inputs ≤ length (store_of store) = rw k.counted (count_most is_input (store_of store)) in
      let one = if is_input n then 1 otherwise 0 in
      let more : length (store_of after) ≡ length (store_of store) + 1 = ap length a.store ∙ length-append (store_of store) (n ∷ []) in
      record {
        few_inputs = few_push (is_input n) k.few_inputs (λ y. (r y).1) e;
        counted = e ∙ ap (λ m. m + one) k.counted ∙ sym (count_snoc is_input (store_of store) n) ∙ ap (W.count is_input) (sym a.store);
        first = subst (λ ns. InputsFirst ns i) (sym a.store) (first_push (store_of store) n few (λ y. (r y).0) e k.first);
        sound = subst AllSound (sym a.store) (sound_push (store_of store) n k.sound s);
        few_outputs = k.few_outputs;
        outputs = subst (λ c. All (GoodOutput c) outs) (sym more) (good_more (length (store_of store)) outs k.outputs);
        limits = k.limits;
        centred = λ m f. a.centred m.p (q m f) (k.centred m f);
        begun = λ f. absurd (true≢false (sym z ∙ ap (λ o. P.is_some o) f));
      }

  -- the `net` line stands first
  pub holds_net : (n : Net) → net ≡ P.None → table_limits n.p n.m ≡ true → Holds (P.Some n) store inputs outs
  unfolding Limited
  holds_net n f t =
      record {
        few_inputs = k.few_inputs;
        counted = k.counted;
        first = k.first;
        sound = k.sound;
        few_outputs = k.few_outputs;
        outputs = k.outputs;
        limits = λ m q. subst Limited q t;
        centred = λ m q. record { at = λ i l. absurd (omega (arith, k.begun f)) };
        begun = λ q. absurd (true≢false (ap (λ o. P.is_some o) q));
      }

-- where there are nodes there is a `net` line
some_net : (o : P.Option Net) {n : ℕ} → (o ≡ P.None → n ≡ 0) → 0 < n → P.IsSome o
some_net P.None h l = absurd (omega (arith, h refl))
some_net (P.Some m) h l = refl

module _ (w : Network) (after : Store) where
  pub input_holds : (g : G.Input) → Ready w (L.In g) → Adds 0 (Input (given_of g)) w.store after → Holds w.net after (w.inputs + 1) w.outputs.items
  unfolding is_input Sound node_centre
  input_holds g r a = holds_node w.holds r.1 after 0 _ a (λ m q. refl) tt (λ y. r.2) refl

  pub sum_holds : (t : Terms) → Ready w (L.Lin t) → Adds 0 (Linear t.constant (terms_in t)) w.store after → Holds w.net after w.inputs w.outputs.items
  unfolding is_input Sound node_centre
  sum_holds t r a = holds_node w.holds r.1 after 0 _ a (λ m q. refl) r.3 (λ y. absurd (true≢false (sym y))) (omega arith)

  pub boot_holds : (p i : ℕ) (t : TableText) → p ≡ period w.net → i < length (store_of w.store) → Adds (centre_of p (bits_of t)) (Bootstrap i (bits_of t)) w.store after
      → Holds w.net after w.inputs w.outputs.items
  unfolding is_input Sound node_centre
  boot_holds p i t e l a =
      holds_node w.holds (some_net w.net w.holds.begun (omega (arith, l))) after (centre_of p (bits_of t)) _ a
      (λ m q. ap (λ x. centre_of x (bits_of t)) (e ∙ ap period q)) (rw (from_length t.bits.now) t.some) (λ y. absurd (true≢false (sym y))) (omega arith)

-- ---- The number of a line that was read is the definition's.

pub few_nodes : (w : Network) → length (prefix_of w).nodes ≤ 65536
few_nodes w = omega (arith, store_few w.store)

module _ (judge : Bool) (w : Network) {l : List ℕ} where
  pub unread_number : LineRead l P.None → 21 ≡ refusal judge (prefix_of w) (network_line l)
  unfolding good_refusal
  unread_number q = ap (good_refusal judge (prefix_of w)) q.same ∙ good_refusal_lem judge (prefix_of w) (few_nodes w) (network_line l)

  module _ (line : Line) (q : LineRead l (P.Some line)) where
    pub read_number : {n : ℕ} → n ≡ lowest (line_conditions judge (prefix_of w) (line_of line)) → n ≡ refusal judge (prefix_of w) (network_line l)
    unfolding good_refusal
    read_number e = e ∙ ap (good_refusal judge (prefix_of w)) q.same ∙ good_refusal_lem judge (prefix_of w) (few_nodes w) (network_line l)

    -- a line with no fault is the text's
    text_line : 0 ≡ lowest (line_conditions judge (prefix_of w) (line_of line)) → network_line l ≡ some (line_of line)
    unfolding refusal
    text_line e = by (network_line l) refl (sym (read_number e))
      where
        by : (o : Option NetworkLine) → network_line l ≡ o → refusal judge (prefix_of w) o ≡ 0 → o ≡ some (line_of line)
        by none f z = absurd (omega arith)
        by (some m) f z = sym (q.same ∙ ap good_line f ∙ good_same judge (prefix_of w) (few_nodes w) m z)

    not_refused : 0 ≡ lowest (line_conditions judge (prefix_of w) (line_of line)) → refusal judge (prefix_of w) (some (line_of line)) ≡ 0
    not_refused e = sym (read_number e ∙ ap (refusal judge (prefix_of w)) (text_line e))

-- ---- There is room for it.

net_there : (o : P.Option Net) → is_some (net_so_far o) ≡ true → P.IsSome o
net_there P.None e = absurd (true≢false (sym e))
net_there (P.Some n) e = refl

pub net_none : (o : P.Option Net) → is_some (net_so_far o) ≡ false → o ≡ P.None
net_none P.None e = refl
net_none (P.Some n) e = absurd (true≢false e)

module _ (judge : Bool) (w : Network) where
  room : (line : Line) → Within line → LineBits (line_of line) → refusal judge (prefix_of w) (some (line_of line)) ≡ 0 → Ready w line
  unfolding is_input started all_inputs Sound LineBits
  room (L.Net n) i b e = (net_none w.net (net-first judge (prefix_of w) (net_of n) e), net_limits judge (prefix_of w) (net_of n) e)
  room (L.In g) i b e =
      let o = inputs-only judge (prefix_of w) _ e in
      let all : w.inputs ≡ length (store_of w.store) = w.holds.counted ∙ eqb-true (W.count is_input (store_of w.store)) (length (store_of w.store)) o.0 in
      (omega (arith, o.1), net_there w.net (node-started judge (prefix_of w) _ e), (all, omega (arith, o.1)), i)
  room (L.Lin t) i b e =
      let n = Linear t.constant (terms_in t) in
      let s = sum_sound judge (prefix_of w) t.constant (terms_in t) e in
      (node_room judge (prefix_of w) n refl e, net_there w.net (node-started judge (prefix_of w) n e), good_known 65537 (store_of w.store) t i s.1, s)
  room (L.Boot j t) i k e =
      let n = Bootstrap j (bits_of t) in
      (node_room judge (prefix_of w) n refl e, net_there w.net (node-started judge (prefix_of w) n e), boot_known judge (prefix_of w) j (bits_of t) e)
  room (L.Out o) i b e =
      let q = out_known judge (prefix_of w) (output_of o) e in
      (rw length-map at q.0, record { name = i; known = q.1; bit = b })

  pub ready : {l : List ℕ} (line : Line) → LineRead l (P.Some line) → 0 ≡ lowest (line_conditions judge (prefix_of w) (line_of line)) → Ready w line
  ready {l} line q e = room line q.within (line-bits l (line_of line) (text_line judge w line q e)) (not_refused judge w line q e)

-- ---- What is there with it.

has_prefix : (v : Network) {o : P.Option Net} {i : ℕ} {os : List Output} → Has v o i os → {ns : List LutNode} → store_of v.store ≡ ns
    → prefix_of v ≡ record { net = net_so_far o; nodes = ns; outputs = map output_of os }
has_prefix v h e = rw (h.net, h.outs, e) refl

module _ (w v : Network) (i : ℕ) where
  pub node_prefix : {c k : ℕ} (n : LutNode) → Has v w.net k w.outputs.items → Adds c n w.store v.store → prefix_of v ≡ with_network_line i (prefix_of w) (NodeLine n)
  unfolding with_network_line
  node_prefix n h a = has_prefix v h a.store

  line_prefix : (line : Line) → Follows w line v → prefix_of v ≡ with_network_line i (prefix_of w) (line_of line)
  unfolding with_network_line
  line_prefix (L.Net n) f = has_prefix v f.0 (ap store_of f.1)
  line_prefix (L.In g) f = node_prefix (Input (given_of g)) f.0 f.1
  line_prefix (L.Lin t) f = node_prefix (Linear t.constant (terms_in t)) f.0 f.1
  line_prefix (L.Boot j t) f = node_prefix (Bootstrap j (bits_of t)) f.0 f.1
  line_prefix (L.Out o) f =
      has_prefix v f.0 (ap store_of f.1)
      ∙ ap (λ x. record { net = net_so_far w.net; nodes = store_of w.store; outputs = x }) (map-append output_of w.outputs.items (o ∷ []))

pub added_prefix : (judge : Bool) (w v : Network) {l : List ℕ} (line : Line) → LineRead l (P.Some line) → 0 ≡ lowest (line_conditions judge (prefix_of w) (line_of line)) → Follows w line v
    → (i : ℕ) → prefix_of v ≡ with_form i (prefix_of w) (network_line l)
added_prefix judge w v line q z f i = rw (text_line judge w line q z) (line_prefix w v i line f)

pub ruleset taking = (unread_number, read_number, ready, added_prefix)
