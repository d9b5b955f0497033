-- The checks 1 to 11 of a datagram: they pass exactly where a query or a response arrives as specs/ExactlyWhen.antt says, and the checks
-- of its name then decide.
use Rattle.std.proofs.Common.{None, Some, ℕ, ◌≡◌, sym, ap, subst, ◌⊎◌, List, Bool, true, false, cond, not, length, ltb, eqb, eqb-true, eq-eqb}
use Rattle.octets.specs.Tests.{◌and◌, ◌or◌}
use Rattle.octets.specs.Addresses.{is_group}
use Rattle.octets.proofs.Tests.{not_below, not_not, neither, only_first}
use Rattle.refusal.specs.Checks.{Checks, Verdict, Gives, next, Clear}
use Rattle.refusal.proofs.Checks.{gives}
use Rattle.name_table.specs.Check.{Held, check_table, names_in, is_found, number_or}
use Rattle.message.specs.Bounds.{class_in}
use Rattle.message.specs.declared.Question.{Question}
use Rattle.message.specs.Question.{question_or, is_bad_question}
use Rattle.host.specs.Bounds.{shortest, longest, any_class}
use Rattle.host.specs.State.{setting_of, state_of}
use Rattle.host.specs.Receive.{Arrival, header, question, found, name_number, state, bad_class, datagram_checks, query_checks, response_checks, receive_checks, receive_if, receive}
use Rattle.host.specs.ExactlyWhen.{ArrivesWell, QueryArrives, ResponseArrives, AsksFor, AsksForNone}
use Rattle.host.specs.declared.Host.{Host}
use Rattle.host.proofs.Conditions.{question_good, class_is}
use Rattle.host.proofs.Called.{called_is, called_gives}

-- the checks after the first four; and those after 11
abbrev later : Host → Arrival → Checks → Checks
later h a rest = datagram_checks (setting_of h a.interface).family a.from.address.family a.to a.datagram rest

abbrev pub last : Host → Arrival → Checks
last h a = cond (header a).response (response_checks h a) (query_checks h a)

module _ (h : Host) (a : Arrival) where
  -- 6: sent to the group or not; 9: records in a query; 8 and 11
  abbrev wrong_way : Bool
  wrong_way = cond (header a).response (is_group a.to) (not (is_group a.to))

  abbrev any_records : Bool
  any_records = not (header a).response and (not (eqb (header a).answers 0) or not (eqb (header a).authorities 0))

  abbrev failed : Bool
  failed = (header a).response and not (eqb (header a).rcode 0)

  abbrev wrong_class : Bool
  wrong_class = not (header a).response and bad_class (question a).class

  -- ---- what has passed

  sixth : Clear (receive_checks h a) → (a.from.address.family ≡ (setting_of h a.interface).family) × (a.to.family ≡ (setting_of h a.interface).family) × (wrong_way ≡ false)
  sixth c =
      let t = (only_first _ _).0 c.1.1.1.1.1.0 in
      let u = (only_first _ _).0 t.1 in
      (eqb-true _ _ t.0, eqb-true _ _ u.0, u.1)

  ninth : Clear (receive_checks h a) → ((header a).questions ≡ 1) × (any_records ≡ false)
  ninth c =
      let t = (only_first _ _).0 c.1.1.1.1.1.1.1.1.0 in
      (eqb-true _ _ t.0, t.1)

  pub after_11 : Clear (receive_checks h a) → Clear (last h a)
  after_11 c = c.1.1.1.1.1.1.1.1.1.1.1

  pub arrives_is : Clear (receive_checks h a) → ArrivesWell h a (names_in (check_table a.table)) (question a)
  arrives_is c =
      let lengths = (neither (ltb (length a.datagram) shortest) (ltb longest (length a.datagram))).0 c.1.1.1.1.0 in
      record {
        called = called_is h a.table a.interface a.time a.out (later h a (last h a)) c;
        shortest = (not_below _ shortest).0 lengths.0;
        longest = (not_below longest _).0 lengths.1;
        from_family = (sixth c).0;
        to_family = (sixth c).1;
        opcode = eqb-true _ _ ((not_not _).0 c.1.1.1.1.1.1.0);
        one_question = (ninth c).0;
        question = question_good _ c.1.1.1.1.1.1.1.1.1.0;
      }

  pub query_is : Clear (receive_checks h a) → (header a).response ≡ false → QueryArrives h a (names_in (check_table a.table)) (question a)
  query_is c q =
      let r : (not (eqb (header a).answers 0) or not (eqb (header a).authorities 0)) ≡ false = rw q at (ninth c).1 in
      let t = (only_first _ _).0 r in
      let g : not (is_group a.to) ≡ false = rw q at (sixth c).2 in
      let b : bad_class (question a).class ≡ false = rw q at c.1.1.1.1.1.1.1.1.1.1.0 in
      record {
        arrives = arrives_is c;
        is_query = q;
        to_group = (not_not _).0 g;
        no_answers = eqb-true _ _ t.0;
        no_authorities = eqb-true _ _ ((not_not _).0 t.1);
        class = (class_is _).0 b;
      }

  pub response_is : Clear (receive_checks h a) → (header a).response ≡ true → ResponseArrives h a (names_in (check_table a.table)) (question a)
  response_is c q =
      let n : not (eqb (header a).rcode 0) ≡ false = rw q at c.1.1.1.1.1.1.1.0 in
      record {
        arrives = arrives_is c;
        is_response = q;
        not_to_group = rw q at (sixth c).2;
        rcode = eqb-true _ _ ((not_not _).0 n);
      }

  -- ---- what passes

  pub receive_by : (v : Verdict) → Gives (receive_checks h a) v → receive h a ≡ receive_if v h a
  unfolding receive
  receive_by v g = ap (λ (u : Verdict). receive_if u h a) (sym (gives g))

  module _ (names : List Held) (q : Question) where
    pub question_is : ArrivesWell h a names q → question a ≡ q
    question_is w = ap question_or w.question

    module _ (w : ArrivesWell h a names q) where
      names_are : names_in (check_table a.table) ≡ names
      names_are = ap names_in w.called.good_table

      pub asks_none : AsksForNone a names q → found a ≡ None
      asks_none f = let n = names_are in let e = question_is w in cc f

      -- every check that the two kinds of message share; the others are handed in
      shared_gives : {v : Verdict} → wrong_way ≡ false → failed ≡ false → any_records ≡ false → wrong_class ≡ false → Gives (last h a) v
          → Gives (receive_checks h a) v
      shared_gives way rcode records class g =
          called_gives h a.table a.interface a.time a.out names w.called
          (next ((neither (ltb (length a.datagram) shortest) (ltb longest (length a.datagram))).1 ((not_below _ shortest).1 w.shortest, (not_below longest _).1 w.longest))
          (next ((only_first _ _).1 (eq-eqb _ _ w.from_family, (only_first _ _).1 (eq-eqb _ _ w.to_family, way)))
          (next ((not_not _).1 (eq-eqb _ _ w.opcode))
          (next rcode
          (next ((only_first _ _).1 (eq-eqb _ _ w.one_question, records))
          (next (ap is_bad_question w.question)
          (next class g)))))))

      module _ (k : ℕ) (f : AsksFor a names q k) where
        found_is : found a ≡ Some k
        found_is = let n = names_are in let e = question_is w in cc f

        pub is_found_lem : is_found (found a) ≡ true
        is_found_lem = ap is_found found_is

        pub number_is : name_number a ≡ k
        number_is = ap number_or found_is

        pub state_is : state h a ≡ state_of h a.interface k
        state_is = ap (λ (j : ℕ). state_of h a.interface j) number_is

    pub query_gives : {v : Verdict} → QueryArrives h a names q → Gives (query_checks h a) v → Gives (receive_checks h a) v
    query_gives {v} w g =
        let e = w.is_query in
        let records : any_records ≡ false = rw e ((only_first _ _).1 (eq-eqb _ _ w.no_answers, (not_not _).1 (eq-eqb _ _ w.no_authorities))) in
        let b : bad_class (question a).class ≡ false =
        (class_is _).1 (subst (λ (x : Question). (x.class ≡ class_in) ⊎ (x.class ≡ any_class)) (sym (question_is w.arrives)) w.class) in
        let way : wrong_way ≡ false = rw e ((not_not _).1 w.to_group) in
        let rcode : failed ≡ false = rw e in
        let class : wrong_class ≡ false = rw e b in
        let rest : Gives (last h a) v = rw e g in
        shared_gives w.arrives way rcode records class rest

    pub response_gives : {v : Verdict} → ResponseArrives h a names q → Gives (response_checks h a) v → Gives (receive_checks h a) v
    response_gives {v} w g =
        let e = w.is_response in
        let way : wrong_way ≡ false = rw e w.not_to_group in
        let rcode : failed ≡ false = rw e ((not_not _).1 (eq-eqb _ _ w.rcode)) in
        let records : any_records ≡ false = rw e in
        let class : wrong_class ≡ false = rw e in
        let rest : Gives (last h a) v = rw e g in
        shared_gives w.arrives way rcode records class rest
