mod NothingRead
mod Kept
mod PendingSectors
mod Wanting
mod Laying
