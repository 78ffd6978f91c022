mod Read
mod Walk
