-- What a call comes to in the words of specs/States.antt, from what the definitions give.
use Rattle.std.proofs.Common.{Some, ℕ, ◌-◌, ◌<◌, ◌≤◌, ◌≡◌, refl, sym, ap, ◌∙◌, subst, List, [], ◌∷◌, append_assoc, arith, length, get_or, set, take, drop, length-set, get_or-set_other}
use Rattle.std.proofs.Math.Seq.{map-set_same}
use Rattle.octets.specs.Octets.{Octets}
use Rattle.octets.specs.declared.Endpoint.{Endpoint}
use Rattle.octets.proofs.Octets.{part_in, length_part}
use Rattle.octets.proofs.Splice.{put_in, splice_start}
use Rattle.octets.proofs.PlainAddresses.{group_endpoint_lem}
use Rattle.refusal.specs.Numbers.{number}
use Rattle.name_table.specs.Check.{Held, no_name, names_in, name_in}
use Rattle.name_table.proofs.Held.{held_name}
use Rattle.message.specs.declared.Question.{Question}
use Rattle.message.specs.Question.{question_at}
use Rattle.message.specs.Query.{query_octets, query_with}
use Rattle.message.proofs.Questions.{reads_a_question}
use Rattle.message.proofs.Query.{query_length, query_plain}
use Rattle.host.specs.State.{absent, interface_of, setting_of, with_clock, with_state}
use Rattle.host.specs.Outcomes.{CallResult, Done, refusal, silent}
use Rattle.host.specs.Asking.{check_query, asking}
use Rattle.host.specs.Receive.{Arrival, question_in}
use Rattle.host.specs.ExactlyWhen.{IsUsed, CalledWell}
use Rattle.host.specs.declared.NameState.{NameState}
use Rattle.host.specs.declared.Interface.{Interface}
use Rattle.host.specs.declared.Host.{Host}
use Rattle.host.proofs.Laws.{other_names, changed_here, changed_name}
use Rattle.host.proofs.Sent.{check_fits}
use Rattle.witness.specs.States.{Place, Refuses, Leaves, Moves, Becomes, Asks, check_of}

-- ---- queries

check_is : (id : ℕ) (name : List ℕ) → check_query id name ≡ check_of id name
check_is id name = ap (query_octets id 0) (append_assoc name (0 ∷ 255 ∷ []) (0 ∷ 1 ∷ [])) ∙ query_plain id _

-- the question as received
pub question_out : (a : Arrival) (q : Question) → Octets a.datagram → question_at a.datagram 12 ≡ Some q
    → (query_octets a.id 0 (question_in a q) ≡ query_with a.id (take (q.end - 12) (drop 12 a.datagram)))
    × (length (query_octets a.id 0 (question_in a q)) ≤ 512)
question_out a q o e =
    let f = (reads_a_question a.datagram 12 q o).0 e in
    let u : 12 ≤ q.end = omega (arith, f.end) in
    let v : q.end ≤ length a.datagram = omega (arith, f.end, f.whole) in
    let n : q.name ≤ 255 = omega (arith, f.name.len_is, f.name.is_name.short) in (
      ap (query_octets a.id 0) (part_in a.datagram 12 q.end u v) ∙ query_plain a.id _,
      omega (arith, query_length a.id 0 (question_in a q), length_part a.datagram 12 q.end u v, f.end),
    )

-- ---- what a call comes to

pub refuses : (h : Host) (out : List ℕ) (n : ℕ) (d : Done) → d ≡ refusal h out (number n) → Refuses h out n d
refuses h out n d e = subst (Refuses h out n) (sym e) (record { result = refl; host = refl; octets = refl; to = refl })

pub leaves : (h : Host) (time : ℕ) (out : List ℕ) (r : CallResult) (d : Done) → d ≡ silent (with_clock h time) out r → Leaves h time out r d
leaves h time out r d e = subst (Leaves h time out r) (sym e) (record { result = refl; states = refl; clock = refl; octets = refl; to = refl })

module _ (h : Host) (i k : ℕ) (p : Place h i k) (s : NameState) (time : ℕ) where
  abbrev changed : Interface
  changed = record { setting = setting_of h i; names = set (interface_of h i).names k s }

  here : interface_of (with_state h i k s time) i ≡ changed
  here = changed_here h i k p.interface p.name s time

  moves : (r : CallResult) (to : Endpoint) (octets : List ℕ) → Moves h i k s time (record { host = with_state h i k s time; result = r; to = to; octets = octets })
  moves r to octets =
      record {
        state = changed_name h i k p.interface p.name s time;
        others =
            record {
              interfaces = λ j n. get_or-set_other h.interfaces i j _ absent n;
              names = other_names h i k time s;
              settings = map-set_same (λ (x : Interface). x.setting) h.interfaces i _ absent refl;
            };
        setting = ap (λ (x : Interface). x.setting) here;
        place =
            record {
              interface = omega (arith, p.interface, length-set h.interfaces i changed);
              name = subst (λ (x : Interface). k < length x.names) (sym here) (omega (arith, p.name, length-set (interface_of h i).names k s));
            };
        many = ap (λ (x : Interface). length x.names) here ∙ length-set (interface_of h i).names k s;
        clock = refl;
      }

  pub becomes : (out : List ℕ) (r : CallResult) (d : Done) → d ≡ silent (with_state h i k s time) out r → Becomes h i k s time out r d
  becomes out r d e = subst (Becomes h i k s time out r) (sym e) (record { moves = moves r _ out; result = refl; octets = refl; to = refl })

  pub asks : (sent out : List ℕ) (d : Done) → IsUsed h i → length sent ≤ length out → d ≡ asking (with_state h i k s time) (setting_of h i) k sent out
      → Asks h i k s time sent out d
  asks sent out d u l e =
      subst (Asks h i k s time sent out) (sym e)
      (record { moves = moves _ _ _; result = refl; octets = put_in out 0 sent (omega arith) ∙ splice_start out sent; to = group_endpoint_lem _ u })

  -- the query of a check
  pub asks_check : (id : ℕ) (table : List ℕ) (names : List Held) (out : List ℕ) (d : Done) → Octets table → CalledWell h table i time out names
      → k < length names → d ≡ asking (with_state h i k s time) (setting_of h i) k (check_query id (name_in table k).octets) out
      → Asks h i k s time (check_of id (get_or names k no_name).octets) out d
  asks_check id table names out d o called in_table e =
      let n = held_name table names o called.good_table k in_table in
      let x : (name_in table k).octets ≡ (get_or names k no_name).octets = ap (λ (y : List Held). (get_or y k no_name).octets) (ap names_in called.good_table) in
      let c : check_query id (name_in table k).octets ≡ check_of id (get_or names k no_name).octets = ap (check_query id) x ∙ check_is id (get_or names k no_name).octets in
      let f = check_fits id n.0 n.1 in
      let l : length (check_query id (name_in table k).octets) ≤ length out =
      subst (λ (y : List ℕ). length (check_query id y) ≤ length out) (sym (x ∙ n.2)) (omega (arith, called.room)) in
      subst (λ (y : List ℕ). Asks h i k s time y out d) c (asks (check_query id (name_in table k).octets) out d called.used l e)
