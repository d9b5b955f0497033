-- Concrete links, by computation. Play: a list that passes the test of specs/Play.antt keeps the rules. Parts: tables, stations, probes and
-- calls, and when such a station is on a link. ThreeHosts: three hosts meet every condition, and their list ends with one owner. Needed:
-- each of five premises is needed, for without it a list that keeps all else ends with two owners.
pub mod Play
pub mod Parts
pub mod ThreeHosts
pub mod Needed
