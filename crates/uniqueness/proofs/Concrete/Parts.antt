-- The parts of concrete links: labels, tables, stations, calls and probes; and what a station must compute to be on its link.
use Rattle.std.proofs.Common.{ℕ, ◌<◌, ◌≤◌, ◌≡◌, refl, sym, ◌∙◌, ap, subst, ◌≢◌, List, [], ◌∷◌, ◌++◌, Bool, true, false, cond, arith, ltb, get_or, set, length, replicate, length-append, length-set, get_or-set_same, get_or-set_other, ltb-true}
use Rattle.std.proofs.lemmas.List.{get_or-replicate}
use Rattle.std.proofs.Math.Logic.{dite}
use Rattle.std.proofs.Math.Decide.{ℕ_discrete}
use Rattle.octets.specs.Bounds.{ipv4, ipv6, used_by6, llmnr_port, interfaces}
use Rattle.octets.specs.Octets.{Octets, part_of, splice, put}
use Rattle.octets.specs.Addresses.{same_octets, below_octets, same_address, below_address, group_of, is_group, group_endpoint, has_address, ours_among, unused}
use Rattle.octets.specs.declared.Setting.{Setting}
use Rattle.octets.proofs.Tests.{both}
use Rattle.refusal.specs.Checks.{verdict}
use Rattle.names.specs.Bounds.{longest_label}
use Rattle.names.specs.NameWalk.{name_from}
use Rattle.names.specs.Folding.{folded, folded_name, same_name}
use Rattle.names.specs.Names.{IsName, encode}
use Rattle.name_table.specs.Kinds.{kind_of}
use Rattle.name_table.specs.Check.{Held, good, no_name, is_whole, name_fills, name_form, record_form, form_by, form_at, find_from, step, from, check_table}
use Rattle.name_table.specs.Records.{record_by, record_at, records_from, valid_on}
use Rattle.name_table.specs.Masks.{is_valid}
use Rattle.name_table.proofs.Meaning.{good_iff}
use Rattle.message.specs.Header.{header_of}
use Rattle.message.specs.Question.{question_at}
use Rattle.message.specs.Query.{query_octets}
use Rattle.message.specs.Reply.{taken_from, reply_octets, reply_written}
use Rattle.host.specs.Bounds.{room as room_octets, latest as latest_time}
use Rattle.host.specs.SetUp.{zero_setting, bad_among, set_up}
use Rattle.host.specs.Outcomes.{ready}
use Rattle.host.specs.Start.{start}
use Rattle.host.specs.Tick.{due_from, tick}
use Rattle.host.specs.Receive.{receive}
use Rattle.uniqueness.specs.Link.{Link, Station, setting_of, SettingFits, Lent, Request, Call, Receipt, SameName, OnLink, Probe, those, latest}
use Rattle.uniqueness.specs.Play.{is_among, deliver, undelivered, play, plays, in_time, keeps_rules, all_keep}
use Rattle.uniqueness.proofs.Hosts.{zeros_fit}

-- every number of a list is an octet, as a test
unfoldable pub are_octets : List ℕ → Bool
are_octets [] = true
are_octets (c ∷ s) = cond (ltb c 256) (are_octets s) false

are_octets_lem : (s : List ℕ) → are_octets s ≡ true → Octets s
unfolding are_octets
are_octets_lem [] e = tt
are_octets_lem (c ∷ s) e = let b = (both (ltb c 256) (are_octets s)).0 e in (ltb-true _ _ b.0, are_octets_lem s b.1)

-- all that a played link computes with: to unfold this is to unfold them
unfoldable pub computing : Unit {0}
unfolding part_of splice put same_octets below_octets same_address below_address group_of is_group group_endpoint has_address ours_among verdict name_from folded same_name kind_of is_whole name_fills name_form record_form form_by form_at find_from step from check_table record_by record_at records_from is_valid valid_on header_of question_at query_octets taken_from reply_octets reply_written bad_among set_up start due_from tick receive those latest is_among deliver undelivered play plays in_time keeps_rules all_keep are_octets
computing = tt

-- 1. CALLS AND PROBES

abbrev lent : Lent
lent = record { id = 9; id_fits = omega arith; out = replicate room_octets 0; out_fits = zeros_fit room_octets; room = omega arith }

abbrev pub receipt : Receipt
receipt = record { port = llmnr_port; port_fits = omega arith; lent = lent }

-- host h, on its interface i, at a time
abbrev pub call : ℕ → Request → ℕ → ℕ → Call
call h r i time = record { host = h; request = r; interface = i; time = time; lent = lent }

-- the labels scale3, SCALE3 and Scale3, and a name of one label
abbrev pub lower : List ℕ
lower = 0x73 ∷ 0x63 ∷ 0x61 ∷ 0x6c ∷ 0x65 ∷ 0x33 ∷ []

abbrev pub upper : List ℕ
upper = 0x53 ∷ 0x43 ∷ 0x41 ∷ 0x4c ∷ 0x45 ∷ 0x33 ∷ []

abbrev pub mixed : List ℕ
mixed = 0x53 ∷ 0x63 ∷ 0x61 ∷ 0x6c ∷ 0x65 ∷ 0x33 ∷ []

abbrev pub name : List ℕ → List ℕ
name label = encode (label ∷ [])

is_name : (l : List ℕ) → are_octets l ≡ true → 1 ≤ length l → length l ≤ longest_label → IsName (l ∷ [])
is_name l o p q = record {
  labels = (record { some = p; short = q; octets = are_octets_lem l o }, tt);
  short = omega (arith, length-append l (0 ∷ []));
}

same_lower : (l : List ℕ) → are_octets l ≡ true → 1 ≤ length l → length l ≤ longest_label → folded_name (l ∷ []) ≡ folded_name (lower ∷ [])
    → SameName (name l) (name lower)
unfolding are_octets
same_lower l o p q e = record {
  first = l ∷ [];
  second = lower ∷ [];
  first_name = is_name l o p q;
  second_name = is_name lower refl (omega arith) (omega arith);
  first_octets = refl;
  second_octets = refl;
  equal = e;
}

-- a link of n hosts with the name scale3
abbrev pub link_of : ℕ → (ℕ → Station) → ℕ → Link
link_of n stations interval = record { count = n; station = stations; family = ipv4; interval = interval; name = name lower }

pub is_lower : SameName (name lower) (name lower)
unfolding are_octets
is_lower = same_lower lower refl (omega arith) (omega arith) refl

-- at the clock's last millisecond, which is not before any moment
abbrev pub probe : (n : ℕ) (stations : ℕ → Station) (interval : ℕ) → Probe (link_of n stations interval)
probe n stations interval = record {
  time = latest_time;
  in_range = omega arith;
  spelling = name lower;
  same = is_lower;
  id = 5;
  id_fits = omega arith;
  source = replicate used_by6 0;
  source_long = refl;
  source_fits = zeros_fit used_by6;
  receipt = receipt;
}

-- 2. STATIONS

-- 192.0.2.n
abbrev wired : ℕ → ℕ → Setting
wired n interval = record { family = ipv4; address = 192 ∷ 0 ∷ 2 ∷ n ∷ replicate 12 0; interval = interval }

-- on interface i, at 192.0.2.n, with name k of the table
abbrev pub station : List ℕ → ℕ → ℕ → ℕ → ℕ → ℕ → ℕ → Station
station table k i n interval time id = record {
  table = table;
  settings = set (replicate interfaces zero_setting) i (wired n interval);
  interface = i;
  name = k;
  time = time;
  id = id;
}

-- a table's entry: a unique name
abbrev pub unique_entry : List ℕ → List ℕ
unique_entry label = (12 ∷ 0 ∷ 1 ∷ 0 ∷ []) ++ name label

abbrev pub plain : ℕ → ℕ → Station
plain n interval = station (unique_entry lower) 0 0 n interval 0 0

module _ (table : List ℕ) (k i n interval time id : ℕ) (on : i < interfaces) where
  abbrev s : Station
  s = station table k i n interval time id

  used_is : setting_of s i ≡ wired n interval
  used_is = get_or-set_same (replicate interfaces zero_setting) i (wired n interval) unused on

  other_is : (j : ℕ) → j < interfaces → j ≢ i → setting_of s j ≡ zero_setting
  other_is j l ne =
      get_or-set_other (replicate interfaces zero_setting) i j (wired n interval) unused ne ∙ get_or-replicate interfaces j zero_setting unused l

  fits : n < 256 → interval < 65536 → (j : ℕ) → j < interfaces → SettingFits (setting_of s j)
  fits ln li j l =
      dite (ℕ_discrete j i)
      (λ e. subst SettingFits (sym (ap (setting_of s) e ∙ used_is))
      (record { family = omega arith; long = refl; octets = (omega arith, (omega arith, (omega arith, (ln, zeros_fit 12)))); interval = li }))
      (λ ne. subst SettingFits (sym (other_is j l ne)) (record { family = omega arith; long = refl; octets = zeros_fit used_by6; interval = omega arith }))

  not_used : (j : ℕ) → j < interfaces → j ≢ i → ((setting_of s j).family ≢ ipv4) × ((setting_of s j).family ≢ ipv6)
  not_used j l ne =
      let e : (setting_of s j).family ≡ 0 = ap (λ (x : Setting). x.family) (other_is j l ne) in
      (λ f. omega (arith, e, f), λ f. omega (arith, e, f))

  -- what is computed of a station whose name is spelled with a label, and whose table has these names
  pub record Computes (label : List ℕ) (names : List Held) : Type 0 where
    pub octets : are_octets table ≡ true
    pub label_octets : are_octets label ≡ true
    pub read : check_table table ≡ good names
    pub unique : (get_or names k no_name).kind ≡ 1
    pub is : (get_or names k no_name).octets ≡ name label
    pub same : folded_name (label ∷ []) ≡ folded_name (lower ∷ [])
    pub set_up : (set_up table s.settings time id).result ≡ ready

  pub on_link_lem : (count : ℕ) (stations : ℕ → Station) (label : List ℕ) (names : List Held) → n < 256 → interval < 65536 → id < 65536 → k < length names
      → 1 ≤ length label → length label ≤ longest_label → Computes label names → OnLink (link_of count stations interval) s
  on_link_lem count stations label names ln li lid lk some short c = record {
    table_fits = are_octets_lem table c.octets;
    good = ((good_iff table _ (are_octets_lem table c.octets)).0 c.read).0;
    spelling = name label;
    unique = record { names = names; read = c.read; inside = lk; kind = c.unique; is = c.is };
    same = same_lower label c.label_octets some short c.same;
    four = length-set (replicate interfaces zero_setting) i (wired n interval);
    fits = fits ln li;
    used = on;
    unused = not_used;
    family = ap (λ (x : Setting). x.family) used_is;
    interval = ap (λ (x : Setting). x.interval) used_is;
    id_fits = lid;
    ready = c.set_up;
  }
