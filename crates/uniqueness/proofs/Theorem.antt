-- From the simulation to the statement, specs/Link.antt. Deliveries and Lists: the statement's lists of calls are the lists of file Simulation.
-- Observers: hosts are observed as every probe tells, or as some probe does. Then the three parts of the record Uniqueness, a file for each.
pub mod Deliveries
pub mod Lists
pub mod Views
pub mod OneOwner
pub mod GoesOn
pub mod Attained
