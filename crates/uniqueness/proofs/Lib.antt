-- One owner of a name on a link, the proof. The statement is specs/Link.antt; file Demand3 proves it.
--
-- The argument. Forget the octets: each host's claim to the name is off, verifying (with its queries sent and the time when it is due),
-- unique or stopped. A host that verifies stops for a reply of a unique host, and for one of a host that verifies and has a lower
-- address. For a below b, both verifying, b's last query came before a's start, or a would have stopped b; so
-- due b + sends a * interval ≤ due a + interval. So never do two verifying hosts both have three sends; hence never are two unique.
-- With a unique host about, whoever verifies has at most two sends and stops at its next query; and the lowest address stops only for a
-- unique host. So once all are started and none verifies, exactly one is unique and all others have stopped. A host that starts first
-- and alone becomes unique within three intervals, and each host that starts later stops at once.
-- Then the calls, on their octets, are shown to do what the model does, delivery by delivery and call by call; a probe tells each
-- host's claim; and the statement's lists are lists of such calls.
--
-- The layers, each on those above it:
-- Model: hosts, messages, deliveries and lists without octets. Deliveries: what a host's query leaves. Changes: what an event does.
--   Invariant: the inequality above. SingleOwner: exactly one owner. InTurn: the host that starts first owns. ListExists: such a list exists.
-- Simulation: any hosts whose calls behave like the model's, and what to show of their calls. Pairwise: lists place by place. Deliveries:
--   deliveries, both ways. Agreement: when hosts and model agree. ToModel, FromModel: steps and runs, both ways. Lists: what the theorem uses.
-- Obligations: what is needed of set-up, start, tick and receive, as plain facts about explicit hosts. Met: they hold, by the laws of the
--   crate host. Start, Tick, Queries, Replies: the calls one by one. HostWith, Stations, Called, Messages, Arrivals: such hosts, what the
--   conditions say of them, calls that are made well, the octets sent, and datagrams that arrive.
-- Hosts: our calls are such hosts, from the obligations alone. AddressOrder: addresses as numbers. Probes: what a probe observes. StartTick,
--   Receive: the calls. Simulate: all together.
-- Theorem: from there to the statement. Deliveries, Lists: its lists are the simulation's. Views: observed by every probe, or by some.
--   OneOwner, GoesOn, Attained: its three parts. Demand3: the theorem, with the obligations met.
-- Concrete: links played by computation. Play: the test of specs/Play.antt is sound. Parts: tables, stations, probes. ThreeHosts: three
--   hosts that meet every condition, and their owner. Needed: two owners where a premise is dropped and all else is kept.
pub mod Model
pub mod Simulation
pub mod Obligations
pub mod Hosts
pub mod Theorem
pub mod Demand3
pub mod Concrete
