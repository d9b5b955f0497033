-- Obligations of a station: receive, of a start's query. Each follows from one law of receive: its conditions are met, and it says all that
-- is given.
use Rattle.std.proofs.Common.{ℕ, ◌≤◌, ◌<◌, ◌≡◌, refl, sym, ◌∙◌, ap, Bool, true, false, cond, ◌≢◌, inl, inr, List, arith, length}
use Rattle.octets.specs.Bounds.{used_by6}
use Rattle.octets.specs.Octets.{Octets}
use Rattle.octets.specs.declared.Address.{Address}
use Rattle.octets.specs.Addresses.{group_of, is_group, group_endpoint}
use Rattle.octets.proofs.Tests.{either_number}
use Rattle.octets.proofs.Addresses.{endpoint_group}
use Rattle.message.specs.declared.Header.{Header}
use Rattle.message.specs.Reply.{reply_header}
use Rattle.message.proofs.Headers.{header_is}
use Rattle.host.specs.declared.NameState.{NameState}
use Rattle.host.specs.declared.NameState.TheVariants.{Off, Unique, Stopped}
use Rattle.host.specs.State.{verifying, shared, is, HasStopped}
use Rattle.host.specs.Outcomes.{Done}
use Rattle.host.specs.Asking.{check_query}
use Rattle.host.specs.Sent.{query_header}
use Rattle.host.specs.Receive.{Arrival}
use Rattle.host.specs.ExactlyWhen.{QueryArrives, AsksFor, state_here, RepliesWhen}
use Rattle.host.proofs.Received.{replies, not_ours_lem, has_stopped}
use Rattle.host.proofs.Sent.{reply_read}
use Rattle.uniqueness.specs.Link.{Station, Link, Receipt, SameName, OnLink, Conditions}
use Rattle.uniqueness.proofs.Obligations.{top, host_with, Replied, RefusedWith, refused_with, own, source, arrival, asking}
use Rattle.uniqueness.proofs.Obligations.{verifying as verifying_with}
use Rattle.uniqueness.proofs.Obligations.HostWith.{clock_at}
use Rattle.uniqueness.proofs.Obligations.Stations.{held, few_is}
use Rattle.uniqueness.proofs.Obligations.Messages.{asks, Reading, ReplyTo, query_is_octets, reads_query}
use Rattle.uniqueness.proofs.Obligations.Arrivals.{state_is, asks_for, arrives}

-- the group address of a family
group_is : (L : Link) → Conditions L → is_group (group_of L.family) ≡ true
unfolding group_endpoint
group_is L c = endpoint_group L.family ((either_number _ _ _).1 c.family)

group_family : (f : ℕ) → (group_of f).family ≡ f
unfolding group_of
group_family f = refl

module _ (L : Link) (c : Conditions L) (s : Station) (o : OnLink L s) where
  -- ---- a start's query

  module _ (x : NameState) (clock t id : ℕ) (y a : List ℕ) (v : Receipt) (f : clock ≤ t) (g : t ≤ top) (h : id < 65536) (w : SameName y L.name) where
    abbrev group : Address
    group = group_of L.family

    abbrev query_here : Arrival
    query_here = arrival L s t group (check_query id y) a v

    query_reads : Reading (check_query id y) y (query_header id)
    query_reads = reads_query y L.name w id

    query_arrives : QueryArrives (host_with s x clock) query_here (held L s o) (asks y)
    query_arrives =
        let e = query_reads.header in
        record {
          arrives = arrives L c s o x clock t f g y w group (check_query id y) a v (query_header id) query_reads (group_family L.family) refl refl;
          is_query = ap (λ (z : Header). z.response) e;
          to_group = group_is L c;
          no_answers = ap (λ (z : Header). z.answers) e;
          no_authorities = ap (λ (z : Header). z.authorities) e;
          class = inl refl;
        }

    query_name : AsksFor query_here (held L s o) (asks y) s.name
    query_name = asks_for L c s o x clock t f g y w group (check_query id y) a v (query_header id) query_reads

    query_state : state_here (host_with s x clock) query_here s.name ≡ x
    query_state = state_is L c s o x clock t f g y w group (check_query id y) a v

    -- of a name that is neither Off nor Stopped nor Shared
    query_replied : (tb : Bool) → x ≢ Off → (HasStopped x → ⊥) → is shared x ≡ false → is verifying x ≡ tb
        → Replied (ReplyTo id y tb) (source L s a v) (host_with s x t) (asking L s x clock t id y a v)
    query_replied tb not_off not_stopped not_shared is_verifying =
        let st = query_state in
        let when : RepliesWhen (host_with s x clock) query_here =
        record {
          names = held L s o;
          q = asks y;
          k = s.name;
          query = query_arrives;
          name = query_name;
          c_clear = ap (λ (z : Header). z.conflict) query_reads.header;
          not_off = λ e. not_off (sym st ∙ e);
          not_stopped = λ p. not_stopped (p.0, sym st ∙ p.1);
        } in
        let e = replies (host_with s x clock) query_here when in
        let r = reply_read (host_with s x clock) query_here _ when (query_is_octets y L.name w id h) (ap (λ (d : Done). d.result) e) in
        record {
          host = ap (λ (d : Done). d.host) e ∙ clock_at s o.four o.used (few_is L s o) x clock t;
          len = _;
          outcome = ap (λ (d : Done). d.result) e;
          to = ap (λ (d : Done). d.to) e;
          octets =
              record {
                cut = r.cut;
                answers = r.answers;
                reads =
                    record {
                      shortest = r.least;
                      longest = let m = r.most in omega arith;
                      header =
                          header_is _ _ r.header_is
                          ∙ ap (λ (z : Header). reply_header z.id (is shared (state_here (host_with s x clock) query_here s.name)) r.cut (is verifying (state_here (host_with s x clock) query_here s.name)) r.answers) query_reads.header
                          ∙ ap (λ (z : NameState). reply_header id (is shared z) r.cut (is verifying z) r.answers) st
                          ∙ ap (λ (z : Bool). reply_header id z r.cut (is verifying x) r.answers) not_shared
                          ∙ ap (λ (z : Bool). reply_header id false r.cut z r.answers) is_verifying;
                      question = r.question_is;
                      name = r.name_is ∙ query_reads.name;
                    };
                t_bit = r.t_bit ∙ ap (λ (z : NameState). cond (is verifying z) 1 0) st ∙ ap (λ (z : Bool). cond z 1 0) is_verifying;
              };
        }

  pub query_off : (clock t id : ℕ) (y a : List ℕ) (v : Receipt) → clock ≤ t → t ≤ top → id < 65536 → SameName y L.name → Octets a → length a ≡ used_by6
      → RefusedWith 12 (host_with s Off clock) (asking L s Off clock t id y a v)
  query_off clock t id y a v f g h w q n =
      refused_with 12 _ _ _
      (not_ours_lem _ _
      (record {
        names = held L s o;
        q = asks y;
        query = query_arrives Off clock t id y a v f g h w;
        none = inr (s.name, query_name Off clock t id y a v f g h w, query_state Off clock t id y a v f g h w);
      }))

  pub query_verifying : (sends own due clock t id : ℕ) (y a : List ℕ) (v : Receipt) → clock ≤ t → t ≤ top → id < 65536 → SameName y L.name
      → Octets a → length a ≡ used_by6
      → Replied (ReplyTo id y true) (source L s a v) (host_with s (verifying_with sends own due) t) (asking L s (verifying_with sends own due) clock t id y a v)
  query_verifying sends own due clock t id y a v f g h w q n =
      query_replied (verifying_with sends own due) clock t id y a v f g h w true
      (λ e. let z : ◌≡◌ {A = ℕ} 0 1 = cc in omega arith) (λ p. let e = p.1 in let z : ◌≡◌ {A = ℕ} 0 1 = cc in omega arith) refl refl

  pub query_unique : (clock t id : ℕ) (y a : List ℕ) (v : Receipt) → clock ≤ t → t ≤ top → id < 65536 → SameName y L.name → Octets a → length a ≡ used_by6
      → Replied (ReplyTo id y false) (source L s a v) (host_with s Unique t) (asking L s Unique clock t id y a v)
  query_unique clock t id y a v f g h w q n =
      query_replied Unique clock t id y a v f g h w false
      (λ e. let z : ◌≡◌ {A = ℕ} 0 1 = cc in omega arith) (λ p. let e = p.1 in let z : ◌≡◌ {A = ℕ} 0 1 = cc in omega arith) refl refl

  pub query_stopped : (until clock t id : ℕ) (y a : List ℕ) (v : Receipt) → clock ≤ t → t ≤ top → id < 65536 → SameName y L.name → Octets a → length a ≡ used_by6
      → RefusedWith 13 (host_with s (Stopped until) clock) (asking L s (Stopped until) clock t id y a v)
  query_stopped until clock t id y a v f g h w q n =
      refused_with 13 _ _ _
      (has_stopped _ _
      (record {
        names = held L s o;
        q = asks y;
        k = s.name;
        query = query_arrives (Stopped until) clock t id y a v f g h w;
        name = query_name (Stopped until) clock t id y a v f g h w;
        stopped = (until, query_state (Stopped until) clock t id y a v f g h w);
      }))
