-- What holds of every call: a refusal changes nothing; an accepted call sets the clock; at most one name changes, and no setting; and what
-- a call gives depends on its own interface's names alone.
use Rattle.std.proofs.Common.{ℕ, zero, suc, ◌<◌, ◌≤◌, ◌≡◌, refl, sym, ap, ◌∙◌, subst, ◌≢◌, List, [], ◌∷◌, Bool, true, false, arith, length, get_or, set, get_or-set_same, get_or-set_other, ext_get_or, leb, ltb, leb-true, leb-false}
use Rattle.std.proofs.lemmas.List.{length-map}
use Rattle.std.proofs.Math.Seq.{set_out, map-set_same}
use Rattle.octets.specs.Addresses.{unused}
use Rattle.octets.specs.declared.Endpoint.{Endpoint}
use Rattle.octets.specs.declared.Setting.{Setting}
use Rattle.octets.proofs.Tests.{split, never}
use Rattle.refusal.specs.Numbers.{Report}
use Rattle.refusal.specs.Checks.{pass, Verdict, refused as refused_by, passed, verdict}
use Rattle.name_table.specs.Kinds.{kind_of, is_shared_kind}
use Rattle.name_table.specs.Check.{check_table, names_in, name_in}
use Rattle.host.specs.Bounds.{sends_in_all}
use Rattle.host.specs.State.{off_name, absent, interface_of, setting_of, settings_of, state_of, with_clock, with_state}
use Rattle.host.specs.Outcomes.{CallResult, refused, is_refused, Done, refusal}
use Rattle.host.specs.Early.{early}
use Rattle.host.specs.SetUp.{zero_host, set_up_checks, set_up_by, set_up}
use Rattle.host.specs.Start.{start_checks, started, start_if, start}
use Rattle.host.specs.Tick.{Due, due, none, due_from, serve, serve_due, tick_if, tick}
use Rattle.host.specs.Receive.{Arrival, header, question, name_number, receive_checks, Decision, answer, defend, stop, keep, decision, effect, receive_if, receive}
use Rattle.host.specs.Laws.{Unchanged, Accepted, OnlyChanges, ChangesOne, SameHere, SameDone, numbers_of, InOrder}
use Rattle.host.specs.declared.NameState.{NameState}
use Rattle.host.specs.declared.NameState.TheVariants.{Off, Verifying, Unique, Defending, Stopped, Shared}
use Rattle.host.specs.declared.Interface.{Interface}
use Rattle.host.specs.declared.Host.{Host}

-- ---- what a call can do

-- it refuses, or keeps every name, or changes the state of the k-th on interface i
data Does (h : Host) (i k time : ℕ) (out : List ℕ) : Done → Type 0 where
  refuses : (t : Report) → Does h i k time out (refusal h out t)
  keeps : {r : CallResult} {to : Endpoint} {octets : List ℕ} → is_refused r ≡ false
      → Does h i k time out (record { host = with_clock h time; result = r; to = to; octets = octets })
  changes : {r : CallResult} {to : Endpoint} {octets : List ℕ} (s : NameState) → is_refused r ≡ false
      → Does h i k time out (record { host = with_state h i k s time; result = r; to = to; octets = octets })

start_does : (h : Host) (table : List ℕ) (i k time id : ℕ) (out : List ℕ) → Does h i k time out (start h table i k time id out)
unfolding start
start_does h table i k time id out = go (verdict (start_checks h table i k time out))
  where
    on : (b : Bool) → is_shared_kind (kind_of (name_in table k).kind) ≡ b → Does h i k time out (started h table i k time id out)
    on true e = rw e (changes Shared refl)
    on false e = rw e (changes _ refl)

    go : (v : Verdict) → Does h i k time out (start_if v h table i k time id out)
    go (refused_by t) = refuses t
    go passed = on _ refl

-- the name of the table that is due on an interface, and its number; 0 stands for none
abbrev due_at : Host → List ℕ → ℕ → ℕ → Due
due_at h table i time = due_from (length (names_in (check_table table))) (interface_of h i).names 0 time

abbrev served_by : Due → ℕ
served_by (due k) = k
served_by none = 0

abbrev served : Host → List ℕ → ℕ → ℕ → ℕ
served h table i time = served_by (due_at h table i time)

tick_does : (h : Host) (table : List ℕ) (i time id : ℕ) (out : List ℕ) → Does h i (served h table i time) time out (tick h table i time id out)
unfolding tick
tick_does h table i time id out = go (verdict (early h table i time out pass))
  where
    by : (s : NameState) (k : ℕ) → Does h i k time out (serve s h table i k time out)
    by (Verifying sends own timer) k = on (ltb sends sends_in_all) refl
      where
        on : (b : Bool) → ltb sends sends_in_all ≡ b → Does h i k time out (serve (Verifying sends own timer) h table i k time out)
        on true e = rw e (changes _ refl)
        on false e = rw e (changes _ refl)
    by (Defending own qtype class timer) k = changes _ refl
    by Off k = changes _ refl
    by Unique k = changes _ refl
    by (Stopped until) k = changes _ refl
    by Shared k = changes _ refl

    serves : (d : Due) → Does h i (served_by d) time out (serve_due d h table i time out)
    serves (due k) = by (state_of h i k) k
    serves none = keeps refl

    go : (v : Verdict) → Does h i (served h table i time) time out (tick_if v h table i time out)
    go (refused_by t) = refuses t
    go passed = serves (due_at h table i time)

receive_does : (h : Host) (a : Arrival) → Does h a.interface (name_number a) a.time a.out (receive h a)
unfolding receive
receive_does h a = go (verdict (receive_checks h a))
  where
    by : (d : Decision) → Does h a.interface (name_number a) a.time a.out (effect d h a (question a) (name_number a))
    by answer = keeps refl
    by defend = changes _ refl
    by stop = changes _ refl
    by keep = keeps refl

    go : (v : Verdict) → Does h a.interface (name_number a) a.time a.out (receive_if v h a)
    go (refused_by t) = refuses t
    go passed = by (decision h a)

-- ---- what follows from it

pub other_names : (h : Host) (i k time : ℕ) (s : NameState) (j : ℕ) → j ≢ k → state_of (with_state h i k s time) i j ≡ state_of h i j
other_names h i k time s j n =
    split (leb (length h.interfaces) i)
    (λ p. ap (λ (l : List Interface). (get_or (get_or l i absent).names j off_name)) (set_out h.interfaces i _ (leb-true _ _ p)))
    (λ p. ap (λ (x : Interface). (get_or x.names j off_name)) (get_or-set_same h.interfaces i _ absent (leb-false _ _ p))
    ∙ (get_or-set_other (interface_of h i).names k j _ off_name n))

-- a name that has a place holds its new state
module _ (h : Host) (i k : ℕ) (inside : i < length h.interfaces) (place : k < length (interface_of h i).names) where
  pub changed_here : (s : NameState) (time : ℕ)
      → interface_of (with_state h i k s time) i ≡ record { setting = setting_of h i; names = set (interface_of h i).names k s }
  changed_here s time = get_or-set_same h.interfaces i _ absent inside

  pub changed_name : (s : NameState) (time : ℕ) → state_of (with_state h i k s time) i k ≡ s
  changed_name s time =
      ap (λ (x : Interface). (get_or x.names k off_name)) (changed_here s time)
      ∙ (get_or-set_same (interface_of h i).names k _ off_name place)

module _ {h : Host} {i k time : ℕ} {out : List ℕ} where
  unchanged : {d : Done} → Does h i k time out d → (t : Report) → d.result ≡ refused t → Unchanged h out d
  unchanged (refuses u) t e = record { host = refl; octets = refl; to = refl }
  unchanged (keeps p) t e = never (ap is_refused e) p
  unchanged (changes s p) t e = never (ap is_refused e) p

  clock_set : {d : Done} → Does h i k time out d → Accepted d → d.host.clock ≡ time
  clock_set (refuses t) a = absurd (a t refl)
  clock_set (keeps p) a = refl
  clock_set (changes s p) a = refl

  only : {d : Done} → Does h i k time out d → OnlyChanges h d.host i k
  only (refuses t) = record { interfaces = λ j n. refl; names = λ j n. refl; settings = refl }
  only (keeps p) = record { interfaces = λ j n. refl; names = λ j n. refl; settings = refl }
  only (changes s p) =
      record {
        interfaces = λ j n. get_or-set_other h.interfaces i j _ absent n;
        names = other_names h i k time s;
        settings = map-set_same (λ (x : Interface). x.setting) h.interfaces i _ absent refl;
      }

-- ---- A refusal changes nothing: not the state, not its clock, not an octet of the buffer; and nothing is sent.

-- A refused set-up gives a host with all interfaces unused and all else zero.
pub set_up_refused : (table : List ℕ) (settings : List Setting) (time id : ℕ) (t : Report) → (set_up table settings time id).result ≡ refused t
    → Unchanged zero_host [] (set_up table settings time id)
unfolding set_up
set_up_refused table settings time id t = go (verdict (set_up_checks table settings time))
  where
    go : (v : Verdict) → (set_up_by v settings time).result ≡ refused t → Unchanged zero_host [] (set_up_by v settings time)
    go (refused_by u) e = record { host = refl; octets = refl; to = refl }
    go passed e = never (ap is_refused e) refl

pub start_refused : (h : Host) (table : List ℕ) (i k time id : ℕ) (out : List ℕ) (t : Report) → (start h table i k time id out).result ≡ refused t
    → Unchanged h out (start h table i k time id out)
start_refused h table i k time id out = unchanged (start_does h table i k time id out)

pub tick_refused : (h : Host) (table : List ℕ) (i time id : ℕ) (out : List ℕ) (t : Report) → (tick h table i time id out).result ≡ refused t
    → Unchanged h out (tick h table i time id out)
tick_refused h table i time id out = unchanged (tick_does h table i time id out)

pub receive_refused : (h : Host) (a : Arrival) (t : Report) → (receive h a).result ≡ refused t → Unchanged h a.out (receive h a)
receive_refused h a = unchanged (receive_does h a)

-- ---- An accepted call sets the clock to its time.

pub set_up_clock : (table : List ℕ) (settings : List Setting) (time id : ℕ) → Accepted (set_up table settings time id)
    → (set_up table settings time id).host.clock ≡ time
unfolding set_up
set_up_clock table settings time id = go (verdict (set_up_checks table settings time))
  where
    go : (v : Verdict) → Accepted (set_up_by v settings time) → (set_up_by v settings time).host.clock ≡ time
    go (refused_by u) a = absurd (a u refl)
    go passed a = refl

pub start_clock : (h : Host) (table : List ℕ) (i k time id : ℕ) (out : List ℕ) → Accepted (start h table i k time id out)
    → (start h table i k time id out).host.clock ≡ time
start_clock h table i k time id out = clock_set (start_does h table i k time id out)

pub tick_clock : (h : Host) (table : List ℕ) (i time id : ℕ) (out : List ℕ) → Accepted (tick h table i time id out)
    → (tick h table i time id out).host.clock ≡ time
tick_clock h table i time id out = clock_set (tick_does h table i time id out)

pub receive_clock : (h : Host) (a : Arrival) → Accepted (receive h a) → (receive h a).host.clock ≡ a.time
receive_clock h a = clock_set (receive_does h a)

-- ---- A call changes no setting, nothing on the other interfaces, and at most one name on its own.

-- A start: the name that it starts.
pub start_only : (h : Host) (table : List ℕ) (i k time id : ℕ) (out : List ℕ) → OnlyChanges h (start h table i k time id out).host i k
start_only h table i k time id out = only (start_does h table i k time id out)

-- A tick: one name.
pub tick_only : (h : Host) (table : List ℕ) (i time id : ℕ) (out : List ℕ) → ChangesOne h (tick h table i time id out).host i
tick_only h table i time id out = record { name = served h table i time; only = only (tick_does h table i time id out) }

-- A datagram: the name that it asks for.
pub receive_only : (h : Host) (a : Arrival) → OnlyChanges h (receive h a).host a.interface (name_number a)
receive_only h a = only (receive_does h a)

-- ---- The settings, one by one, and a state that stays.

pub setting_there : (l : List Interface) (i : ℕ) → get_or (settings_of l) i unused ≡ (get_or l i absent).setting
setting_there [] i = refl
setting_there (x ∷ l) zero = refl
setting_there (x ∷ l) (suc i) = setting_there l i

set_same : {A : Type 0} (l : List A) (i : ℕ) (d : A) → set l i (get_or l i d) ≡ l
set_same [] i d = refl
set_same (x ∷ l) zero d = refl
set_same (x ∷ l) (suc i) d = ap {B = List _} (λ r. x ∷ r) (set_same l i d)

pub state_stays : (h : Host) (i k time : ℕ) → with_state h i k (state_of h i k) time ≡ with_clock h time
state_stays h i k time =
    let n : set (interface_of h i).names k (state_of h i k) ≡ (interface_of h i).names = set_same (interface_of h i).names k off_name in
    ap (λ (x : List NameState). record { interfaces = set h.interfaces i (record { setting = setting_of h i; names = x }); clock = time }) n
    ∙ ap (λ (x : List Interface). record { interfaces = x; clock = time }) (set_same h.interfaces i absent)

-- as many interfaces as settings; and a host is its interfaces, one by one, and its clock
pub as_many : (l m : List Interface) → settings_of l ≡ settings_of m → length l ≡ length m
as_many l m e = sym (length-map l (λ (x : Interface). x.setting)) ∙ ap length e ∙ length-map m (λ (x : Interface). x.setting)

pub same_host : {l m : List Interface} {c d : ℕ} → l ≡ m → c ≡ d
    → ◌≡◌ {A = Host} (record { interfaces = l; clock = c }) (record { interfaces = m; clock = d })
same_host e f = rw (e, f)

pub one_host : (h g : Host) → settings_of h.interfaces ≡ settings_of g.interfaces → ((j : ℕ) → interface_of h j ≡ interface_of g j)
    → h.clock ≡ g.clock → h ≡ g
one_host h g s e c = same_host (ext_get_or absent h.interfaces g.interfaces (as_many h.interfaces g.interfaces s) (λ j l. e j)) c

-- ---- What a call gives depends on the clock, all settings, its own interface's names and its inputs, and on nothing else.

-- the same is stored at the same place
set_here : (l m : List Interface) (i : ℕ) (x : Interface) → length l ≡ length m → get_or l i absent ≡ get_or m i absent
    → get_or (set l i x) i absent ≡ get_or (set m i x) i absent
set_here l m i x n e =
    split (leb (length l) i)
    (λ p. let q : length m ≤ i = omega (arith, leb-true (length l) i p) in rw (set_out l i x (leb-true _ _ p), set_out m i x q) e)
    (λ p. let q : i < length m = omega (arith, leb-false (length l) i p) in rw (get_or-set_same l i x absent (leb-false _ _ p), get_or-set_same m i x absent q))

module _ (h g : Host) (i : ℕ) (same : SameHere h g i) where
  same_clock : (time : ℕ) → SameHere (with_clock h time) (with_clock g time) i
  same_clock time = record { clock = refl; settings = same.settings; here = same.here }

  same_state : (k : ℕ) (s : NameState) (time : ℕ) → SameHere (with_state h i k s time) (with_state g i k s time) i
  same_state k s time =
      record {
        clock = refl;
        settings =
            map-set_same (λ (x : Interface). x.setting) h.interfaces i _ absent refl ∙ same.settings
            ∙ sym (map-set_same (λ (x : Interface). x.setting) g.interfaces i _ absent refl);
        here =
            set_here h.interfaces g.interfaces i _
            (as_many h.interfaces g.interfaces same.settings) same.here
            ∙ ap (λ (x : Interface). get_or (set g.interfaces i (record { setting = x.setting; names = set x.names k s })) i absent) same.here;
      }

  same_changed : (k : ℕ) (s u : NameState) → s ≡ u → (time : ℕ) → SameHere (with_state h i k s time) (with_state g i k u time) i
  same_changed k s u e time = subst (λ (v : NameState). SameHere (with_state h i k s time) (with_state g i k v time) i) e (same_state k s time)

  same_refusal : (out : List ℕ) (t : Report) → SameDone (refusal h out t) (refusal g out t) i
  same_refusal out t = record { result = refl; to = refl; octets = refl; after = same }

  start_alike : (table : List ℕ) (k time id : ℕ) (out : List ℕ) → SameDone (start h table i k time id out) (start g table i k time id out) i
  unfolding start
  start_alike table k time id out =
      subst (λ (v : Verdict). SameDone (start h table i k time id out) (start_if v g table i k time id out) i) (ap verdict checks)
      (go (verdict (start_checks h table i k time out)))
    where
      checks : start_checks h table i k time out ≡ start_checks g table i k time out
      checks = cc

      on : (b : Bool) → is_shared_kind (kind_of (name_in table k).kind) ≡ b → SameDone (started h table i k time id out) (started g table i k time id out) i
      on true e = rw e (record { result = refl; to = refl; octets = refl; after = same_state k Shared time })
      on false e =
          rw e
          (record {
            result = refl;
            to = cc;
            octets = refl;
            after = same_changed k _ _ (cc) time;
          })

      go : (v : Verdict) → SameDone (start_if v h table i k time id out) (start_if v g table i k time id out) i
      go (refused_by t) = same_refusal out t
      go passed = on _ refl

  tick_alike : (table : List ℕ) (time id : ℕ) (out : List ℕ) → SameDone (tick h table i time id out) (tick g table i time id out) i
  unfolding tick
  tick_alike table time id out =
      subst (λ (v : Verdict). SameDone (tick h table i time id out) (tick_if v g table i time out) i) (ap verdict checks)
      (go (verdict (early h table i time out pass)))
    where
      checks : early h table i time out pass ≡ early g table i time out pass
      checks = cc

      by : (s : NameState) (k : ℕ) → SameDone (serve s h table i k time out) (serve s g table i k time out) i
      by (Verifying sends own timer) k = on (ltb sends sends_in_all) refl
        where
          on : (b : Bool) → ltb sends sends_in_all ≡ b
              → SameDone (serve (Verifying sends own timer) h table i k time out) (serve (Verifying sends own timer) g table i k time out) i
          on true e = rw e (record { result = refl; to = cc; octets = refl; after = same_changed k _ _ (cc) time })
          on false e = rw e (record { result = refl; to = refl; octets = refl; after = same_state k Unique time })
      by (Defending own qtype class timer) k = record { result = refl; to = refl; octets = refl; after = same_state k Unique time }
      by Off k = record { result = refl; to = refl; octets = refl; after = same_state k Unique time }
      by Unique k = record { result = refl; to = refl; octets = refl; after = same_state k Unique time }
      by (Stopped until) k = record { result = refl; to = refl; octets = refl; after = same_state k Unique time }
      by Shared k = record { result = refl; to = refl; octets = refl; after = same_state k Unique time }

      serves : (d : Due) → SameDone (serve_due d h table i time out) (serve_due d g table i time out) i
      serves (due k) =
          let e : state_of h i k ≡ state_of g i k = cc in
          subst (λ (s : NameState). SameDone (serve (state_of h i k) h table i k time out) (serve s g table i k time out) i) e
          (by (state_of h i k) k)
      serves none = record { result = refl; to = refl; octets = refl; after = same_clock time }

      go : (v : Verdict) → SameDone (tick_if v h table i time out) (tick_if v g table i time out) i
      go (refused_by t) = same_refusal out t
      go passed =
          let e : due_at h table i time ≡ due_at g table i time = cc in
          subst (λ (d : Due). SameDone (serve_due (due_at h table i time) h table i time out) (serve_due d g table i time out) i) e
          (serves (due_at h table i time))

pub start_same : (h g : Host) (table : List ℕ) (i k time id : ℕ) (out : List ℕ) → SameHere h g i
    → SameDone (start h table i k time id out) (start g table i k time id out) i
start_same h g table i k time id out same = start_alike h g i same table k time id out

pub tick_same : (h g : Host) (table : List ℕ) (i time id : ℕ) (out : List ℕ) → SameHere h g i
    → SameDone (tick h table i time id out) (tick g table i time id out) i
tick_same h g table i time id out same = tick_alike h g i same table time id out

pub receive_same : (h g : Host) (a : Arrival) → SameHere h g a.interface → SameDone (receive h a) (receive g a) a.interface
unfolding receive
receive_same h g a same =
    subst (λ (v : Verdict). SameDone (receive h a) (receive_if v g a) a.interface) (ap verdict checks)
    (go (verdict (receive_checks h a)))
  where
    checks : receive_checks h a ≡ receive_checks g a
    checks = cc

    by : (d : Decision) → SameDone (effect d h a (question a) (name_number a)) (effect d g a (question a) (name_number a)) a.interface
    by answer = record { result = cc; to = refl; octets = cc; after = same_clock h g a.interface same a.time }
    by defend = record { result = refl; to = cc; octets = refl; after = same_changed h g a.interface same (name_number a) _ _ (cc) a.time }
    by stop = record { result = refl; to = refl; octets = refl; after = same_state h g a.interface same (name_number a) _ a.time }
    by keep = record { result = refl; to = refl; octets = refl; after = same_clock h g a.interface same a.time }

    go : (v : Verdict) → SameDone (receive_if v h a) (receive_if v g a) a.interface
    go (refused_by t) = same_refusal h g a.interface same a.out t
    go passed =
        let e : decision h a ≡ decision g a = cc in
        subst (λ (d : Decision). SameDone (effect (decision h a) h a (question a) (name_number a)) (effect d g a (question a) (name_number a)) a.interface) e
        (by (decision h a))

-- ---- The order in which a call's refusals are looked for, as rules F say it.

-- Set-up: 2, 4, 20.
pub set_up_order : (table : List ℕ) (settings : List Setting) (time : ℕ) → numbers_of (set_up_checks table settings time) ≡ 2 ∷ 4 ∷ 20 ∷ []
set_up_order table settings time = refl

-- Start: 1 to 4, 12, 19, 21.
pub start_order : (h : Host) (table : List ℕ) (i k time : ℕ) (out : List ℕ) → numbers_of (start_checks h table i k time out) ≡ 1 ∷ 2 ∷ 3 ∷ 4 ∷ 12 ∷ 19 ∷ 21 ∷ []
start_order h table i k time out = refl

-- Tick: 1 to 4.
pub tick_order : (h : Host) (table : List ℕ) (i time : ℕ) (out : List ℕ) → numbers_of (early h table i time out pass) ≡ 1 ∷ 2 ∷ 3 ∷ 4 ∷ []
tick_order h table i time out = refl

-- A query: 1 to 7, 9 to 14.
pub query_order : (h : Host) (a : Arrival) → (header a).response ≡ false
    → InOrder (receive_checks h a) 8 (1 ∷ 2 ∷ 3 ∷ 4 ∷ 5 ∷ 6 ∷ 7 ∷ 9 ∷ 10 ∷ 11 ∷ 12 ∷ 13 ∷ 14 ∷ [])
unfolding verdict
query_order h a e = record { same = rw e; order = rw e }

-- A response: 1 to 10, 15, 16.
pub response_order : (h : Host) (a : Arrival) → (header a).response ≡ true
    → InOrder (receive_checks h a) 11 (1 ∷ 2 ∷ 3 ∷ 4 ∷ 5 ∷ 6 ∷ 7 ∷ 8 ∷ 9 ∷ 10 ∷ 15 ∷ 16 ∷ [])
unfolding verdict
response_order h a e = record { same = rw e; order = rw e }
